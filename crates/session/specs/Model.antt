-- The plain model of a session: a list of records, a stack, a tally and the marks not given back, judged by the rules alone.
use Rattle.std.specs.Prelude.{ℕ, suc, ◌-◌, cond, List, [], ◌∷◌, ◌++◌, length, Some, None, vec_items, Option, ◌==◌}
use Rattle.book.specs.declared.records.Record.{Record}
use Rattle.book.specs.declared.records.Record.TheVariants as is
use Rattle.book.specs.Loads.{loads, load_result, after_load}
use Rattle.book.specs.Rules.{judge, after_entry}
use Rattle.undoable.specs.declared.facts.Fact.{Fact}
use Rattle.undoable.specs.Calls.{push_result, push_stack, push_tally, pop_result, pop_stack, ask_result, cut_to}
use Rattle.undoable.specs.Kinds.{Kind}
use Rattle.session.specs.declared.calls.Call.{Call}
use Rattle.session.specs.declared.calls.Call.TheVariants as call
use Rattle.session.specs.declared.calls.Outcome.{Outcome}
use Rattle.session.specs.declared.calls.Outcome.TheVariants.{Entered, Loaded, Pushed, Popped, Answered, Marked, RolledBack, Kept, NoSuchMark}

-- a mark that is not given back: its number among the marks taken, and the height at which it was taken
pub record Noted : Type 0 where
  pub number : ℕ
  pub height : ℕ

pub record State : Type 0 where
  pub records : List Record
  pub stack : List Fact
  pub tally : ℕ
  pub taken : ℕ
  pub marks : List Noted

-- before the first call of a list no mark is taken
abbrev pub start : List Record → List Fact → ℕ → State
start rs s t = record { records = rs; stack = s; tally = t; taken = 0; marks = [] }

-- the height of mark number n, if it is not given back, and the marks without it
abbrev pub height_of : ℕ → List Noted → Option ℕ
height_of n [] = None
height_of n (m ∷ ms) = cond (m.number == n) (Some m.height) (height_of n ms)

abbrev pub given_back : ℕ → List Noted → List Noted
given_back n [] = []
given_back n (m ∷ ms) = cond (m.number == n) ms (m ∷ given_back n ms)

abbrev pub with_records : State → List Record → State
with_records s rs = record { records = rs; stack = s.stack; tally = s.tally; taken = s.taken; marks = s.marks }

abbrev pub roll_outcome : List Fact → Option ℕ → Outcome
roll_outcome s None = NoSuchMark
roll_outcome s (Some h) = RolledBack (length s - h)

abbrev pub roll_stack : List Fact → Option ℕ → List Fact
roll_stack s None = s
roll_stack s (Some h) = cut_to h s

abbrev pub keep_outcome : Option ℕ → Outcome
keep_outcome None = NoSuchMark
keep_outcome (Some h) = Kept

-- what comes of one call
abbrev pub outcome : Kind → State → Call → Outcome
outcome k s (call.Fact f) = Entered (judge s.records (is.Fact f))
outcome k s (call.Withdrawal f) = Entered (judge s.records (is.Withdrawal f))
outcome k s (call.Question q) = Entered (judge s.records (is.Question q))
outcome k s (call.Load ws) = Loaded (load_result (loads (vec_items ws)))
outcome k s (call.Push f) = Pushed (push_result k s.stack f)
outcome k s call.Pop = Popped (pop_result s.stack)
outcome k s (call.Ask q) = Answered (ask_result k s.stack q)
outcome k s call.Mark = Marked s.taken
outcome k s (call.RollBack n) = roll_outcome s.stack (height_of n s.marks)
outcome k s (call.Keep n) = keep_outcome (height_of n s.marks)

-- the state after it
abbrev pub next : Kind → State → Call → State
next k s (call.Fact f) = with_records s (after_entry s.records (is.Fact f))
next k s (call.Withdrawal f) = with_records s (after_entry s.records (is.Withdrawal f))
next k s (call.Question q) = with_records s (after_entry s.records (is.Question q))
next k s (call.Load ws) = with_records s (after_load s.records (loads (vec_items ws)))
next k s (call.Push f) = record { records = s.records; stack = push_stack k s.stack f; tally = push_tally k s.stack f s.tally; taken = s.taken; marks = s.marks }
next k s call.Pop = record { records = s.records; stack = pop_stack s.stack; tally = s.tally; taken = s.taken; marks = s.marks }
next k s (call.Ask q) = s
next k s call.Mark = record { records = s.records; stack = s.stack; tally = s.tally; taken = suc s.taken; marks = s.marks ++ record { number = s.taken; height = length s.stack } ∷ [] }
next k s (call.RollBack n) = record { records = s.records; stack = roll_stack s.stack (height_of n s.marks); tally = s.tally; taken = s.taken; marks = given_back n s.marks }
next k s (call.Keep n) = record { records = s.records; stack = s.stack; tally = s.tally; taken = s.taken; marks = given_back n s.marks }

-- what comes of a list of calls, and the state at its end
abbrev pub outcomes : Kind → State → List Call → List Outcome
outcomes k s [] = []
outcomes k s (c ∷ cs) = outcome k s c ∷ outcomes k (next k s c) cs

abbrev pub finally : Kind → State → List Call → State
finally k s [] = s
finally k s (c ∷ cs) = finally k (next k s c) cs
