-- What solve does with a book and a structure: the answers, the pieces of all spans together, and when it refuses.
use Rattle.std.specs.Prelude.{◌≡◌, ℕ, ◌+◌, ◌*◌, ◌%◌, ◌^◌, ◌≤◌, Bool, true, cond, not, List, [], ◌∷◌, ◌++◌, map, length, drop, is_ok, Some, None, Ok, Err, sum_by, Option, Result, nat_lt}
use Rattle.std.specs.List.{range_with_len}
use Rattle.undoable.specs.declared.facts.Fact.{Fact}
use Rattle.undoable.specs.declared.facts.Question.{Question}
use Rattle.undoable.specs.Kinds.{Kind}
use Rattle.book.specs.declared.records.Record.{Record}
use Rattle.book.specs.declared.records.Record.TheVariants as is
use Rattle.book.specs.Alive.{alive}
use Rattle.book.specs.Records.{fact_count, question_count}
use Rattle.book.specs.Spans.{before, span, entries_from, deepest_of, first_from, first_crowded}
use Rattle.solver.specs.declared.refusals.SolveError.{SolveError}
use Rattle.solver.specs.declared.refusals.SolveRefusal.{SolveRefusal}
use Rattle.solver.specs.declared.refusals.SolveRefusal.TheVariants.{AnswersShort, NotAdmitted, TableShort, TooHigh}
use Rattle.solver.specs.declared.refusals.Solved.{Solved}
use Rattle.solver.specs.Tree.{pieces_of}
use Rattle.solver.specs.Walks.{numbered_question}

-- the facts alive at question q, in the order of entry
abbrev pub alive_at : List Record → ℕ → List Fact
alive_at rs q = map (λ x. x.fact) (alive (before q rs))

-- question q is the record that follows those before it
abbrev pub question_at : List Record → ℕ → Question
question_at rs q = numbered_question rs (length (before q rs))

-- the answer to question q, for the facts st on the stack and the facts alive at q
abbrev pub answer_at : Kind → List Fact → List Record → ℕ → ℕ
answer_at k st rs q = k.rule (alive_at rs q ++ st) (question_at rs q)

abbrev pub answers_for : Kind → List Fact → List Record → List ℕ
answers_for k st rs = map (answer_at k st rs) (range_with_len 0 (question_count rs))

-- the number of pieces of all spans together
abbrev pub piece_total : List Record → ℕ
piece_total rs = sum_by (λ x. length (pieces_of (question_count rs) (span rs x.number x.fact))) (entries_from 0 rs)

-- the structure admits the fact or the question of a record
abbrev pub suits : Kind → Record → Bool
suits k (is.Fact f) = k.admits f
suits k (is.Withdrawal f) = true
suits k (is.Question q) = k.asks q

abbrev pub first_suits : Kind → List Record → Bool
first_suits k [] = true
first_suits k (r ∷ rs) = suits k r

-- the first record that the structure does not admit
abbrev pub first_unsuited : Kind → List Record → Option ℕ
first_unsuited k rs = first_from (λ n. not (first_suits k (drop n rs))) (length rs) 0

-- how many words the tables have that are lent to solve
pub record Sizes : Type 0 where
  pub answers : ℕ
  pub spans : ℕ
  pub nodes : ℕ
  pub pieces : ℕ

-- the first of the work tables 0 (spans), 1 (nodes) and 2 (pieces) that is too short
abbrev pub table_too_short : List Record → Sizes → Option ℕ
table_too_short rs z =
    cond (nat_lt z.spans (2 * fact_count rs)) (Some 0) (cond (nat_lt z.nodes (4 * question_count rs)) (Some 1) (cond (nat_lt z.pieces (2 * piece_total rs)) (Some 2) None))

-- a refusal if there is a place for it, else what comes next
abbrev pub refused_at : SolveRefusal → Option ℕ → Result ℕ SolveError → Result ℕ SolveError
refused_at x None r = r
refused_at x (Some p) r = Err (record { refusal = x; place = p })

-- the tests in their order; an accepted solve makes as many additions as there are pieces
abbrev pub judge_tables : Kind → List Fact → List Record → Sizes → Result ℕ SolveError
judge_tables k st rs z = refused_at TableShort (table_too_short rs z) (refused_at TooHigh (first_crowded rs (length st) k.capacity) (Ok (piece_total rs)))

abbrev pub judge_solve : Kind → List Fact → List Record → Sizes → Result ℕ SolveError
judge_solve k st rs z = cond (nat_lt z.answers (question_count rs)) (Err (record { refusal = AnswersShort; place = 0 })) (refused_at NotAdmitted (first_unsuited k rs) (judge_tables k st rs z))

-- what the tests on the answers table and the structure find if they do not refuse, for private contracts
pub record Accepted (k : Kind) (st : List Fact) (rs : List Record) (answers : ℕ) : Type 0 where
  pub long : question_count rs ≤ answers
  pub fit : first_unsuited k rs ≡ None
  pub room : first_crowded rs (length st) k.capacity ≡ None

abbrev pub solved_by : List Record → Result ℕ SolveError → Result Solved SolveError
solved_by rs (Ok n) = Ok (record { questions = question_count rs; additions = n; deepest = deepest_of rs })
solved_by rs (Err e) = Err e

abbrev pub solve_outcome : Kind → List Fact → List Record → Sizes → Result Solved SolveError
solve_outcome k st rs z = solved_by rs (judge_solve k st rs z)

-- the answers table and the tally after a solve; a refused one leaves both
abbrev pub solve_table : Kind → List Fact → List Record → Sizes → List ℕ → List ℕ
solve_table k st rs z old = cond (is_ok (judge_solve k st rs z)) (answers_for k st rs ++ drop (question_count rs) old) old

abbrev pub solve_tally : Kind → List Fact → List Record → Sizes → ℕ → ℕ
solve_tally k st rs z t = cond (is_ok (judge_solve k st rs z)) ((t + piece_total rs) % 2 ^ 32) t

-- the number of a refusal
abbrev pub refusal_number : SolveRefusal → ℕ
refusal_number AnswersShort = 11
refusal_number NotAdmitted = 12
refusal_number TableShort = 13
refusal_number TooHigh = 14
