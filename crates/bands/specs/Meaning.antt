-- What a bands structure stands for.
use Rattle.std.specs.Prelude.{ℕ, cond, List, Ok, Err, Result}
use Rattle.undoable.specs.declared.facts.Fact.{Fact}
use Rattle.undoable.specs.declared.facts.Question.{Question}
use Rattle.undoable.specs.declared.refusals.AskRefusal.{AskRefusal}
use Rattle.undoable.specs.declared.refusals.AskRefusal.TheVariants.{NotAdmitted}
use Rattle.undoable.specs.Kinds.{Kind}
use Rattle.undoable.specs.Stacks.{held, room}
use Rattle.bands.specs.declared.relations.Relation.{Relation}
use Rattle.bands.specs.declared.structure.Bands.{Bands}
use Rattle.bands.specs.Rows.{facts_of}
use Rattle.bands.specs.Rule.{asks_bands, relation, bands_kind}

abbrev pub stack_of : Bands → List Fact
stack_of b = facts_of (held b.history.stack)

-- the number of records in the memory lent
abbrev pub capacity_of : Bands → ℕ
capacity_of b = room b.history.stack

-- what is said of the two bands of a question
abbrev pub relation_result : List Fact → Question → Result Relation AskRefusal
relation_result fs q = cond (asks_bands q) (Ok (relation fs q.first q.second)) (Err NotAdmitted)

abbrev pub kind_of : Bands → Kind
kind_of b = bands_kind (capacity_of b)
