-- Lists of records, the earliest entered first, and what is counted in them.
use Rattle.std.specs.Prelude.{ℕ, Bool, true, false, List, count_by, Option, Some, None}
use Rattle.undoable.specs.Kinds.{same}
use Rattle.undoable.specs.declared.facts.Fact.{Fact}
use Rattle.undoable.specs.declared.facts.Question.{Question}
use Rattle.book.specs.declared.records.Record.{Record}
use Rattle.book.specs.declared.records.Record.TheVariants as is

-- the record enters a fact equal to f
abbrev pub enters : Fact → Record → Bool
enters f (is.Fact g) = same f g
enters f (is.Withdrawal g) = false
enters f (is.Question q) = false

-- the record withdraws a fact equal to f
abbrev pub withdraws : Fact → Record → Bool
withdraws f (is.Fact g) = false
withdraws f (is.Withdrawal g) = same f g
withdraws f (is.Question q) = false

abbrev pub is_fact : Record → Bool
is_fact (is.Fact g) = true
is_fact (is.Withdrawal g) = false
is_fact (is.Question q) = false

abbrev pub is_withdrawal : Record → Bool
is_withdrawal (is.Fact g) = false
is_withdrawal (is.Withdrawal g) = true
is_withdrawal (is.Question q) = false

abbrev pub is_question : Record → Bool
is_question (is.Fact g) = false
is_question (is.Withdrawal g) = false
is_question (is.Question q) = true

-- the fact that a record enters, and the question that it asks
abbrev pub fact_in : Record → Option Fact
fact_in (is.Fact g) = Some g
fact_in (is.Withdrawal g) = None
fact_in (is.Question q) = None

abbrev pub question_in : Record → Option Question
question_in (is.Fact g) = None
question_in (is.Withdrawal g) = None
question_in (is.Question q) = Some q

-- how often a fact equal to f is entered, and how often it is withdrawn
abbrev pub entered_of : Fact → List Record → ℕ
entered_of f rs = count_by (enters f) rs

abbrev pub withdrawn_of : Fact → List Record → ℕ
withdrawn_of f rs = count_by (withdraws f) rs

abbrev pub fact_count : List Record → ℕ
fact_count rs = count_by is_fact rs

abbrev pub withdrawal_count : List Record → ℕ
withdrawal_count rs = count_by is_withdrawal rs

abbrev pub question_count : List Record → ℕ
question_count rs = count_by is_question rs
