-- The records before a question, and the greatest number of facts alive there.
use Rattle.std.proofs.Common.{◌≡◌, ℕ, suc, ◌+◌, cond, List, [], ◌∷◌, ◌++◌, length, refl, ap, ◌∙◌, arith}
use Rattle.std.proofs.lemmas.List.Sums.{sum_by-cons}
use Rattle.undoable.specs.declared.facts.Question.{Question}
use Rattle.book.specs.declared.records.Record.{Record}
use Rattle.book.specs.declared.records.Record.TheVariants as is
use Rattle.book.specs.Alive.{alive}
use Rattle.book.specs.Records.{is_question, question_count}
use Rattle.book.specs.Spans.{before}

pub questions-cons : (r : Record) (rs : List Record) → question_count (r ∷ rs) ≡ cond (is_question r) 1 0 + question_count rs
questions-cons r rs = sum_by-cons (λ x. cond (is_question x) 1 0) r rs

-- the front before a question has as many questions as the question's number
pub before_at : (front : List Record) (q : Question) (rest : List Record) → before (question_count front) (front ++ is.Question q ∷ rest) ≡ front
before_at [] q rest = refl
before_at (is.Fact f ∷ rs) q rest =
    let e : question_count (is.Fact f ∷ rs) ≡ question_count rs = questions-cons (is.Fact f) rs ∙ omega arith in
    ap (λ n. before n (is.Fact f ∷ (rs ++ is.Question q ∷ rest))) e ∙ ap (λ l. is.Fact f ∷ l) (before_at rs q rest)
before_at (is.Withdrawal f ∷ rs) q rest =
    let e : question_count (is.Withdrawal f ∷ rs) ≡ question_count rs = questions-cons (is.Withdrawal f) rs ∙ omega arith in
    ap (λ n. before n (is.Withdrawal f ∷ (rs ++ is.Question q ∷ rest))) e ∙ ap (λ l. is.Withdrawal f ∷ l) (before_at rs q rest)
before_at (is.Question x ∷ rs) q rest =
    let e : question_count (is.Question x ∷ rs) ≡ suc (question_count rs) = questions-cons (is.Question x) rs ∙ omega arith in
    ap (λ n. before n (is.Question x ∷ (rs ++ is.Question q ∷ rest))) e ∙ ap (λ l. is.Question x ∷ l) (before_at rs q rest)

-- how many facts are alive at a question
abbrev pub depth : List Record → ℕ → ℕ
depth rs q = length (alive (before q rs))
