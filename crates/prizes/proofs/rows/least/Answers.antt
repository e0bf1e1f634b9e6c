use Rattle.std.proofs.Common.{◌+◌, get_or, arith}
use Rattle.prizes.proofs.Leasts.{most_most}
use Rattle.prizes.proofs.Steps.{below_more, below_all, below_end}
use Rattle.prizes.proofs.rows.least.Goals as goal
use Rattle.prizes.proofs.rows.least.Goals.{else-loop-k-test, then-loop-k-test+then-used-payout, then-loop-k-test+else-used-payout+else-k-k-end}

pub loop-k-preserved : goal.loop-k-preserved
loop-k-preserved c = let m = below_more c.args.prize.amount (λ w. get_or c.args.base.now w 0) c.args.payout c.loop-k.k in grind (arith, m)

pub overflow_cast-result : goal.overflow_cast-result
overflow_cast-result c =
    let e = below_end c.args.prize.amount (λ w. get_or c.args.base.now w 0) c.args.payout c.loop-k.k c.args.prize.copies in
    let m = below_more c.args.prize.amount (λ w. get_or c.args.base.now w 0) c.args.payout c.loop-k.k in
    let t = most_most c.args.prize.amount (λ w. get_or c.args.base.now w 0) c.args.payout in
    elim c.loop-k-test.branch [ else-loop-k-test w ↦ omega arith | then-loop-k-test+then-used-payout w ↦ grind (arith, e, t) | then-loop-k-test+else-used-payout+else-k-k-end w ↦ grind (arith, m, t) ]

pub returns : goal.returns
returns c =
    let e = below_end c.args.prize.amount (λ w. get_or c.args.base.now w 0) c.args.payout c.loop-k.k c.args.prize.copies in
    let m = below_more c.args.prize.amount (λ w. get_or c.args.base.now w 0) c.args.payout c.loop-k.k in
    let a = below_all c.args.prize.amount (λ w. get_or c.args.base.now w 0) c.args.payout (c.loop-k.k + 1) c.args.prize.copies in
    elim c.loop-k-test.branch [ else-loop-k-test w ↦ omega arith | then-loop-k-test+then-used-payout w ↦ grind (arith, e) | then-loop-k-test+else-used-payout+else-k-k-end w ↦ grind (arith, m, a) ]
