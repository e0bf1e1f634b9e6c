-- What a prizes structure stands for.
use Rattle.std.specs.Prelude.{ℕ, min, List, length}
use Rattle.undoable.specs.declared.facts.Fact.{Fact}
use Rattle.undoable.specs.Kinds.{Kind}
use Rattle.undoable.specs.Stacks.{held, room}
use Rattle.prizes.specs.declared.structure.Prizes.{Prizes}
use Rattle.prizes.specs.Rule.{prizes_kind}
use Rattle.prizes.specs.Saved.{facts_of}

abbrev pub stack_of : Prizes → List Fact
stack_of p = facts_of (held p.history.stack)

-- the lesser of the prize records given and the whole rows of 1,001 entries given
abbrev pub capacity_of : Prizes → ℕ
capacity_of p = min (room p.history.stack) (length p.rows.saved.now)

abbrev pub kind_of : Prizes → Kind
kind_of p = prizes_kind (capacity_of p)
