-- The model's state, of what a session holds.
use Rattle.std.specs.Prelude.{ℕ, List}
use Rattle.book.specs.View.{records_of}
use Rattle.undoable.specs.declared.facts.Fact.{Fact}
use Rattle.session.specs.declared.performing.Session.{Session}
use Rattle.session.specs.Model.{State}

-- `stack` and `tally` read them of the structure
abbrev pub state_of : {U : Type 0} → (U → List Fact) → (U → ℕ) → Session U → State
state_of stack tally s = record { records = records_of s.book.now; stack = stack s.structure.now; tally = tally s.structure.now; taken = s.marks.now.taken; marks = s.marks.now.noted }
