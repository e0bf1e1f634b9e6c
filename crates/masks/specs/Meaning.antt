-- What a masks structure stands for.
use Rattle.std.specs.Prelude.{ℕ, List}
use Rattle.undoable.specs.declared.facts.Fact.{Fact}
use Rattle.undoable.specs.Kinds.{Kind}
use Rattle.undoable.specs.Stacks.{held, room}
use Rattle.masks.specs.declared.structure.Masks.{Masks}
use Rattle.masks.specs.Rule.{masks_kind}
use Rattle.masks.specs.Saved.{facts_of}

abbrev pub stack_of : Masks → List Fact
stack_of p = facts_of (held p.history.stack)

-- the number of records in the memory lent
abbrev pub capacity_of : Masks → ℕ
capacity_of p = room p.history.stack

abbrev pub kind_of : Masks → Kind
kind_of p = masks_kind (capacity_of p)
