-- An empty structure, and the theorems.
use Rattle.std.proofs.Common.{arith}
use Rattle.bands.proofs.Holding.{nothing_held}
use Rattle.bands.proofs.Labels.{by_walks}
use Rattle.bands.proofs.Tables.{taken_back}
use Rattle.bands.proofs.Telling.{few_links_rule}
use Rattle.bands.proofs.structure.Bands.new.Goals as goal

pub invariant_of-result : goal.invariant_of-result
invariant_of-result c =
    let h = nothing_held c.new.ensures.held c.new-2.ensures in
    record { limited = omega (arith, c.new.ensures.limit, c.new.ensures.room); admitted = h.admitted; present = h.present; steps = h.saved }

pub returns-clause-walks : goal.returns-clause-walks
returns-clause-walks c = by_walks

pub returns-clause-links : goal.returns-clause-links
returns-clause-links c = few_links_rule

pub returns-clause-undone : goal.returns-clause-undone
returns-clause-undone c = taken_back
