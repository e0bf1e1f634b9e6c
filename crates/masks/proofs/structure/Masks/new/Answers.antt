use Rattle.masks.proofs.Selections.{sums_of_selections, zero_is_sum}
use Rattle.masks.proofs.structure.Masks.new.Goals as goal

pub returns-clause-sums : goal.returns-clause-sums
returns-clause-sums c = sums_of_selections

pub returns-clause-zero : goal.returns-clause-zero
returns-clause-zero c = zero_is_sum
