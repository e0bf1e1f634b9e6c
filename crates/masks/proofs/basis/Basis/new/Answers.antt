use Rattle.std.proofs.Common.{rules}
use Rattle.masks.specs.Reducing.{basis_of}
use Rattle.masks.proofs.Spanning.{none_empty}
use Rattle.masks.proofs.basis.Basis.new.Goals as goal

pub invariant_of-result : goal.invariant_of-result
unfolding basis_of
invariant_of-result c = record { shaped = λ k n. absurd (n (none_empty k)) }

pub returns : goal.returns
unfolding basis_of
returns c = search rules
