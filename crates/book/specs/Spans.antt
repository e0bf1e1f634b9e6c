-- The span (s, e) of a fact: it is alive at question q exactly if s ≤ q < e.
use Rattle.std.specs.Prelude.{ℕ, zero, suc, ◌+◌, max, Bool, cond, ◌&&◌, ltb, List, [], ◌∷◌, length, take, drop, Some, None, filter, Option, nat_le, nat_lt}
use Rattle.undoable.specs.declared.facts.Fact.{Fact}
use Rattle.book.specs.declared.records.Record.{Record}
use Rattle.book.specs.declared.records.Record.TheVariants as is
use Rattle.book.specs.Records.{question_count}
use Rattle.undoable.specs.Kinds.{same}
use Rattle.book.specs.Alive.{Entry, alive, equal_to}

-- how many questions stand before the withdrawal of f that comes after k others, or in all the records if there is none
abbrev pub until : Fact → ℕ → List Record → ℕ
until f k [] = 0
until f k (is.Fact g ∷ rs) = until f k rs
until f k (is.Question q ∷ rs) = suc (until f k rs)
until f zero (is.Withdrawal g ∷ rs) = cond (same f g) 0 (until f zero rs)
until f (suc k) (is.Withdrawal g ∷ rs) = cond (same f g) (until f k rs) (until f (suc k) rs)

-- the span of the fact f that record number n of rs enters: the equal facts that are alive before it are ended before it
abbrev pub span : List Record → ℕ → Fact → ℕ × ℕ
span rs n f = (question_count (take n rs), question_count (take n rs) + until f (equal_to f (alive (take n rs))) (drop (suc n) rs))

-- the fact that a record enters
abbrev pub fact_within : List Record → Option Fact
fact_within [] = None
fact_within (is.Fact f ∷ rs) = Some f
fact_within (is.Withdrawal f ∷ rs) = None
fact_within (is.Question q ∷ rs) = None

abbrev pub span_if : List Record → ℕ → Option Fact → Option (ℕ × ℕ)
span_if rs n None = None
span_if rs n (Some f) = Some (span rs n f)

-- the span of record number n, if it enters a fact
abbrev pub span_at : List Record → ℕ → Option (ℕ × ℕ)
span_at rs n = span_if rs n (fact_within (drop n rs))

abbrev pub holds : ℕ → ℕ × ℕ → Bool
holds q x = nat_le x.0 q && nat_lt q x.1

-- the facts that records enter, the first record having number n
abbrev pub entries_from : ℕ → List Record → List Entry
entries_from n [] = []
entries_from n (is.Fact f ∷ rs) = record { number = n; fact = f } ∷ entries_from (suc n) rs
entries_from n (is.Withdrawal f ∷ rs) = entries_from (suc n) rs
entries_from n (is.Question q ∷ rs) = entries_from (suc n) rs

-- the facts whose span holds question q, in the order of entry
abbrev pub holding : List Record → ℕ → List Entry
holding rs q = filter (λ x. holds q (span rs x.number x.fact)) (entries_from 0 rs)

-- the records before question number q
abbrev pub before : ℕ → List Record → List Record
before q [] = []
before q (is.Fact f ∷ rs) = is.Fact f ∷ before q rs
before q (is.Withdrawal f ∷ rs) = is.Withdrawal f ∷ before q rs
before zero (is.Question x ∷ rs) = []
before (suc q) (is.Question x ∷ rs) = is.Question x ∷ before q rs

-- the greatest of the first n values
abbrev pub greatest : (ℕ → ℕ) → ℕ → ℕ
greatest f zero = 0
greatest f (suc n) = max (greatest f n) (f n)

-- the greatest number of facts alive at one question, 0 without questions
abbrev pub deepest_of : List Record → ℕ
deepest_of rs = greatest (λ q. length (alive (before q rs))) (question_count rs)

-- the first of the n numbers from m on that passes a test
abbrev pub first_from : (ℕ → Bool) → ℕ → ℕ → Option ℕ
first_from p zero m = None
first_from p (suc n) m = cond (p m) (Some m) (first_from p n (suc m))

-- the first question at which some others and the facts alive there are more than a limit
abbrev pub first_crowded : List Record → ℕ → ℕ → Option ℕ
first_crowded rs others limit = first_from (λ q. ltb limit (others + length (alive (before q rs)))) (question_count rs) 0
