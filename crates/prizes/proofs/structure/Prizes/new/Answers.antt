use Rattle.std.proofs.Common.{ap, sym, ◌∙◌}
use Rattle.prizes.specs.Saved.{row_of, facts_of}
use Rattle.prizes.proofs.Leasts.{fewest_prizes}
use Rattle.prizes.proofs.structure.Prizes.new.Goals as goal

pub invariant_of-result-clause-present : goal.invariant_of-result-clause-present
invariant_of-result-clause-present c = c.new-rows.ensures.row ∙ sym (ap (λ l. row_of (facts_of l)) c.new-history.ensures.held)

pub returns-clause-least : goal.returns-clause-least
returns-clause-least c = fewest_prizes
