-- Which records a book accepts: the rules of entry, judged by the list of records before.
use Rattle.std.specs.Prelude.{ℕ, ◌^◌, Bool, true, cond, ◌&&◌, List, [], ◌∷◌, ◌++◌, length, is_ok, Ok, Err, Result, nat_lt}
use Rattle.book.specs.declared.records.Record.{Record}
use Rattle.book.specs.declared.records.Record.TheVariants as is
use Rattle.book.specs.declared.refusals.Refusal.{Refusal}
use Rattle.book.specs.declared.refusals.Refusal.TheVariants.{FieldTooLarge, BookFull, NothingAlive, TooManyQuestions}
use Rattle.book.specs.Records.{question_count}
use Rattle.book.specs.Words.{first_of, second_of, head_word_of, second_word_of}
use Rattle.book.specs.Alive.{alive, equal_to}

-- both fields are at most 536,870,911
abbrev pub fits : Record → Bool
fits r = nat_lt (first_of r) (2 ^ 29) && nat_lt (second_of r) (2 ^ 29)

-- the words of a record, if its fields can be written
abbrev pub record_words : Record → Result (ℕ × ℕ) Refusal
record_words r = cond (fits r) (Ok (head_word_of r, second_word_of r)) (Err FieldTooLarge)

-- what a record's own kind asks of the records before it
abbrev pub judge_kind : List Record → Record → Result (Unit {0}) Refusal
judge_kind rs (is.Fact f) = Ok tt
judge_kind rs (is.Withdrawal f) = cond (nat_lt 0 (equal_to f (alive rs))) (Ok tt) (Err NothingAlive)
judge_kind rs (is.Question q) = cond (nat_lt (question_count rs) 1024) (Ok tt) (Err TooManyQuestions)

-- what comes of entering a record after the records rs
abbrev pub judge : List Record → Record → Result (Unit {0}) Refusal
judge rs r = cond (fits r) (cond (nat_lt (length rs) 4096) (judge_kind rs r) (Err BookFull)) (Err FieldTooLarge)

-- the records after that
abbrev pub after_entry : List Record → Record → List Record
after_entry rs r = cond (is_ok (judge rs r)) (rs ++ r ∷ []) rs

-- each of the records qs is accepted after those before it, the first one after rs
abbrev pub sound_after : List Record → List Record → Bool
sound_after rs [] = true
sound_after rs (q ∷ qs) = is_ok (judge rs q) && sound_after (rs ++ q ∷ []) qs

-- a list that a book can hold
abbrev pub sound : List Record → Bool
sound rs = sound_after [] rs
