-- What is true of the definitions, in the words of the subject. Each statement stands on the contract of a public call.
use Rattle.std.specs.Prelude.{◌≡◌, ℕ, ◌+◌, ◌*◌, ◌<◌, ◌≤◌, true, false, ◌⊎◌, List, [], ◌∷◌, length, take, drop, is_ok, Some, Ok, Err, slice_index}
use Rattle.undoable.specs.declared.facts.Fact.{Fact}
use Rattle.book.specs.declared.records.Record.{Record}
use Rattle.book.specs.declared.records.Record.TheVariants as is
use Rattle.book.specs.declared.refusals.LoadError.{LoadError}
use Rattle.book.specs.declared.refusals.LoadError.TheVariants as from
use Rattle.book.specs.declared.refusals.WordFault.{WordFault}
use Rattle.book.specs.declared.refusals.WordFault.TheVariants.{WrongKind, HeadAtEnd}
use Rattle.book.specs.Alive.{alive, equal_to}
use Rattle.book.specs.Loads.{loads}
use Rattle.book.specs.Records.{entered_of, withdrawn_of, question_count}
use Rattle.book.specs.Rules.{judge, sound}
use Rattle.book.specs.Spans.{before, holding, span_at, deepest_of}
use Rattle.book.specs.Words.{is_head, is_second, record_in, writes}

-- the words of a book load to that book
abbrev pub LoadsBack : Type 0
LoadsBack = (rs : List Record) → sound rs ≡ true → loads (writes rs) ≡ Ok rs

-- whatever loads was written by a list of accepted entries
abbrev pub LoadsOnlyBooks : Type 0
LoadsOnlyBooks = (ws : List ℕ) (rs : List Record) → loads ws ≡ Ok rs → (sound rs ≡ true) × (writes rs ≡ ws)

-- a word of the wrong kind: the head itself, or the word behind a head
abbrev pub WrongWord : WordFault → ℕ → ℕ → List ℕ → Type 0
WrongWord WrongKind p h ws = ((p ≡ h) × (is_head (slice_index ws 0) ≡ false)) ⊎ ((p ≡ h + 1) × (1 < length ws) × (is_head (slice_index ws 0) ≡ true) × (is_second (slice_index ws 1) ≡ false))
WrongWord HeadAtEnd p h ws = (p ≡ h + 1) × (length ws ≡ 1) × (is_head (slice_index ws 0) ≡ true)

-- what is wrong with the first record of the words ws, whose head is word number h and which comes after the records rs
abbrev pub Faulty : List Record → ℕ → List ℕ → LoadError → Type 0
Faulty rs h ws (from.Words e) = WrongWord e.fault e.place h ws
Faulty rs h ws (from.Book e) = (e.place ≡ h) × (1 < length ws) × (is_head (slice_index ws 0) ≡ true) × (is_second (slice_index ws 1) ≡ true) × (judge rs (record_in (slice_index ws 0) (slice_index ws 1)) ≡ Err e.refusal)

-- a refused load: the words before the named record load, that record is at fault as the refusal says, and no longer front of the words loads
pub record Refused (ws : List ℕ) (e : LoadError) : Type 0 where
  pub rs : List Record
  pub lawful : sound rs ≡ true
  pub front : take (2 * length rs) ws ≡ writes rs
  pub within : 2 * length rs < length ws
  pub fault : Faulty rs (2 * length rs) (drop (2 * length rs) ws) e
  pub longest : (m : ℕ) → 2 * length rs < m → m ≤ length ws → is_ok (loads (take m ws)) ≡ false

abbrev pub LoadRefuses : Type 0
LoadRefuses = (ws : List ℕ) (e : LoadError) → loads ws ≡ Err e → Refused ws e

-- the facts alive at a question are exactly those whose span holds it
abbrev pub AliveBySpans : Type 0
AliveBySpans = (rs : List Record) (q : ℕ) → q < question_count rs → alive (before q rs) ≡ holding rs q

-- after every record of a book the equal facts alive are those entered less those withdrawn
abbrev pub AliveByCounts : Type 0
AliveByCounts = (rs : List Record) → sound rs ≡ true → (n : ℕ) (f : Fact) → equal_to f (alive (take n rs)) + withdrawn_of f (take n rs) ≡ entered_of f (take n rs)

abbrev fact : ℕ → ℕ → Fact
fact a b = record { first = a; second = b }

abbrev ask : ℕ → Record
ask v = is.Question (record { first = v; second = 0 })

abbrev pub example_book : List Record
example_book =
    is.Fact (fact 10 1) ∷ (ask 10 ∷ (is.Fact (fact 20 1) ∷ (ask 30 ∷ (is.Fact (fact 10 1) ∷ (ask 20 ∷ (is.Withdrawal (fact 10 1) ∷ (ask 30 ∷ (ask 40 ∷ (is.Withdrawal (fact 20 1) ∷ (ask 20 ∷ []))))))))))

-- numbers worked by hand
abbrev pub WorkedBook : Type 0
WorkedBook =
    (sound example_book ≡ true)
    × (span_at example_book 0 ≡ Some (0, 3))
    × (span_at example_book 2 ≡ Some (1, 5))
    × (span_at example_book 4 ≡ Some (2, 6))
    × (deepest_of example_book ≡ 3)
    × (writes (is.Fact (fact 10 1) ∷ []) ≡ 0x2000000A ∷ (0x80000001 ∷ []))
