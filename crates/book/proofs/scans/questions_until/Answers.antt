use Rattle.std.proofs.Common.{rules, ◌≡◌, true, length, ◌<◌, ◌+◌, sym, ap, ◌∙◌, arith}
use Rattle.book.specs.Listed.{listed}
use Rattle.book.specs.Records.{withdraws}
use Rattle.book.specs.Spans.{until}
use Rattle.book.proofs.Untils.{until_next}
use Rattle.book.proofs.scans.questions_until.Goals as goal

pub loop-item-preserved-then-eq : goal.loop-item-preserved-then-eq
loop-item-preserved-then-eq c =
    let f = c.args.fact in
    let some : 0 < c.loop-item.left = omega arith in
    let w : withdraws c.args.fact c.in-Some.item ≡ true = search rules in
    let more = until_next f c.loop-item.left c.in-Some.item (listed c.next.new.self) w some in
    record {
      questions = ap (λ n. c.loop-item.questions + n) (sym more ∙ ap (until f c.loop-item.left) (sym c.in-Some.ensures.steps)) ∙ c.loop-item.invariant.questions;
      few = omega (arith, c.loop-item.invariant.few, ap length c.in-Some.ensures.steps);
    }
