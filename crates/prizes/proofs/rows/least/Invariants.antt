use Rattle.std.proofs.Common.{◌≡◌, get_or}
use Rattle.prizes.proofs.Steps.{least_below}
use Rattle.prizes.proofs.rows.least.Given as goal

abbrev pub invariant-loop-k : goal.invariant-loop-k
invariant-loop-k l = l.best ≡ least_below l.amount (λ w. get_or l.base w 0) l.payout l.k
