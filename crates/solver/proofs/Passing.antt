-- Passes over a book's records: those of a kind, with their numbers.
use Rattle.std.proofs.Common.{◌≡◌, ℕ, zero, suc, ◌+◌, ◌<◌, Bool, List, [], ◌∷◌, length, get_or, is_some, sym, refl, ap, ◌∙◌, arith}
use denote.Param.Members.{Mut}
use denote.Ref.{Bor}
use Rattle.std.specs.Fn.{CalledAt}
use Rattle.std.specs.Iterator.{YieldsFirst}
use Rattle.std.specs.Iterator.Adapters.{enumerate_source, enumerate_count, enumerate_steps, filter_source, filter_callee, filter_steps}
use Rattle.std.specs.declared.iter.Enumerate.{Enumerate}
use Rattle.std.specs.declared.iter.Filter.{Filter}
use Rattle.std.specs.List.{enumerate_from, filter}
use Rattle.std.proofs.lemmas.Iterator.{YieldsList}
use Rattle.std.proofs.lemmas.Iterator.Consumers.{YieldsList-at, YieldsList-from_first, YieldsList-from_enumerate, YieldsList-from_filter}
use Rattle.std.proofs.lemmas.List.FromFn.{length-enumerate_from, get_or-enumerate_from}
use Rattle.book.specs.declared.iteration.Records.{Records}
use Rattle.book.specs.declared.records.Record.{Record}
use Rattle.book.specs.declared.records.Record.TheVariants as is
use Rattle.book.specs.Listed.{listed}
use Rattle.book.specs.Records.{question_count, question_in}
use Rattle.book.specs.Spans.{before}
use Rattle.book.proofs.Asked.{questions-cons}

-- the records that pass a test, with their numbers
abbrev pub kept : (Record → Bool) → ℕ → List Record → List (ℕ × Record)
kept test n rs = filter (λ p. test p.1) (enumerate_from n rs)

-- a chain over them
pub kept_records : {F : Type 0} (g : Mut F (Bor (ℕ × Record) × Unit {0}) Bool) (test : Record → Bool) {f : F} {s : Filter (Enumerate Records) F} {e : Enumerate Records} {r : Records} → filter_source s ≡ e → enumerate_source e ≡ r → enumerate_count e ≡ 0 → (rs : List Record) → listed r ≡ rs → filter_callee s ≡ f → ((x : ℕ × Record) (b : Bool) (q : F) → CalledAt g f x b q → (q ≡ f) × (b ≡ test x.1)) → YieldsList (filter_steps (enumerate_steps (YieldsFirst listed)) g) (λ p. (p.0, p.1)) s (kept test 0 rs)
kept_records g test source records count rs gives closure calls =
    YieldsList-from_filter g (λ p. test p.1) (YieldsList-at source (YieldsList-from_enumerate (YieldsList-at records (YieldsList-from_first (λ x. x) listed rs gives)) count)) closure calls

-- the questions among them
pub question_kept : (n : ℕ) (rs : List Record) (q : ℕ) (d : ℕ × Record) → q < length (kept (λ r. is_some (question_in r)) n rs) → (get_or (kept (λ r. is_some (question_in r)) n rs) q d).0 ≡ n + length (before q rs)
question_kept n [] q d h = absurd (omega arith)
question_kept n (is.Fact f ∷ rs) q d h = omega (arith, question_kept (n + 1) rs q d h)
question_kept n (is.Withdrawal f ∷ rs) q d h = omega (arith, question_kept (n + 1) rs q d h)
question_kept n (is.Question x ∷ rs) zero d h = omega arith
question_kept n (is.Question x ∷ rs) (suc q) d h = omega (arith, question_kept (n + 1) rs q d (omega arith))

pub questions_kept : (n : ℕ) (rs : List Record) → length (kept (λ r. is_some (question_in r)) n rs) ≡ question_count rs
questions_kept n [] = refl
questions_kept n (is.Fact f ∷ rs) = omega (arith, questions_kept (n + 1) rs, questions-cons (is.Fact f) rs)
questions_kept n (is.Withdrawal f ∷ rs) = omega (arith, questions_kept (n + 1) rs, questions-cons (is.Withdrawal f) rs)
questions_kept n (is.Question q ∷ rs) = omega (arith, questions_kept (n + 1) rs, questions-cons (is.Question q) rs)

-- one turn of a loop over them, counted
pub question_turn : (rs : List Record) (n q number : ℕ) (item : Record) → (n < length (enumerate_from 0 (kept (λ r. is_some (question_in r)) 0 rs))) × ((q, (number, item)) ≡ get_or (enumerate_from 0 (kept (λ r. is_some (question_in r)) 0 rs)) n (q, (number, item))) → (q ≡ n) × (q < question_count rs) × (number ≡ length (before q rs))
question_turn rs n q number item t =
    let xs = kept (λ r. is_some (question_in r)) 0 rs in
    let m = length-enumerate_from 0 xs in
    let lt : n < length (kept (λ r. is_some (question_in r)) 0 rs) = omega (arith, t.0, m) in
    let e = t.1 ∙ get_or-enumerate_from 0 xs n (q, (number, item)) lt in
    let at : q ≡ n = omega (arith, ap (λ p. p.0) e) in
    (at, omega (arith, at, lt, questions_kept 0 rs), ap (λ p. p.1.0) e ∙ question_kept 0 rs n (number, item) lt ∙ omega arith ∙ ap (λ k. length (before k rs)) (sym at))
