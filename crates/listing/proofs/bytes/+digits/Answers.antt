-- One digit, or one more than the digits of a tenth.
use Rattle.std.proofs.Common.{◌^◌, ◌<◌, ◌≤◌, sym, arith}
use Rattle.std.proofs.lemmas.Fmt.{length-decimal-le}
use Rattle.itoa.proofs.Decimal.{length_one, length_step_wide}
use Rattle.listing.proofs.bytes.+digits.Goals as goal

pub returns-then-n-lt10 : goal.returns-then-n-lt10
returns-then-n-lt10 t c =
    let small : c.args.n < 10 = omega arith in
    record { count = sym (length_one c.args.n small); few = omega arith }

pub returns : goal.returns
returns t c =
    let more = length_step_wide c.args.n (omega arith) (omega arith) in
    record { count = omega (arith, more); few = omega (arith, more, length-decimal-le 20 c.args.n (omega arith) (omega arith) (omega arith)) }
