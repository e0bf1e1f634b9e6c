-- What a list of calls does, for every kind of structure.
use Rattle.std.specs.Prelude.{◌≡◌, ℕ, ◌≤◌, List, map, length, take, Some}
use Rattle.book.specs.declared.records.Record.{Record}
use Rattle.undoable.specs.declared.facts.Fact.{Fact}
use Rattle.undoable.specs.Kinds.{Kind}
use Rattle.session.specs.declared.calls.Call.{Call}
use Rattle.session.specs.declared.calls.Call.TheVariants as call
use Rattle.session.specs.declared.calls.Outcome.{Outcome}
use Rattle.session.specs.Model.{State, start, next, height_of, outcomes, finally}

-- the calls cs, made on a book with the records rs and a structure of kind k with the stack s and the tally t, gave the log,
-- and left the records rs', the stack s', the tally t' and marks of these heights. A front of a list of calls is itself one,
-- so this speaks of the state after every call
pub record Plays (k : Kind) (rs : List Record) (s : List Fact) (t : ℕ) (cs : List Call) (log : List Outcome) (heights : List ℕ) (rs' : List Record) (s' : List Fact) (t' : ℕ) : Type 0 where
  pub told : log ≡ outcomes k (start rs s t) cs
  pub records_left : rs' ≡ (finally k (start rs s t) cs).records
  pub stack_left : s' ≡ (finally k (start rs s t) cs).stack
  pub tally_left : t' ≡ (finally k (start rs s t) cs).tally
  pub marks_left : heights ≡ map (λ m. m.height) (finally k (start rs s t) cs).marks

-- no call of a list leaves the stack lower than h
abbrev pub NeverBelow : Kind → ℕ → State → List Call → Type 0
NeverBelow k h s cs = (n : ℕ) → n ≤ length cs → h ≤ length (finally k s (take n cs)).stack

-- a roll back leaves the stack that stood when its mark was taken, if the mark is not given back and no call between left
-- the stack lower
abbrev pub RollBackRestores : Type 0
RollBackRestores =
    (k : Kind) (s : State) (between : List Call)
    → let m : State = next k s call.Mark in
    let e : State = finally k m between in
    NeverBelow k (length s.stack) m between
    → height_of s.taken e.marks ≡ Some (length s.stack)
    → (next k e (call.RollBack s.taken)).stack ≡ s.stack
