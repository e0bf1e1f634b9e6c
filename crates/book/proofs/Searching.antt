-- The first number that passes a test, and the records before the question at which a search stands.
use Rattle.std.proofs.Common.{◌≡◌, ℕ, zero, suc, ◌+◌, ◌-◌, ◌<◌, Bool, true, false, List, ◌∷◌, ◌++◌, Some, sym, ap, ◌∙◌, add-one, arith}
use Rattle.std.proofs.lemmas.Bool.{cond-true, cond-false}
use Rattle.book.specs.declared.records.Record.{Record}
use Rattle.book.specs.declared.records.Record.TheVariants as is
use Rattle.book.specs.Records.{is_question, question_count}
use Rattle.book.specs.Spans.{before, first_from}
use Rattle.book.proofs.Asked.{before_at}

pub first_here : (p : ℕ → Bool) (n m : ℕ) → 0 < n → p m ≡ true → first_from p n m ≡ Some m
first_here p zero m h e = absurd (omega arith)
first_here p (suc n) m h e = cond-true _ _ _ e

pub first_later : (p : ℕ → Bool) (n m : ℕ) → 0 < n → p m ≡ false → first_from p n m ≡ first_from p (n - 1) (m + 1)
first_later p zero m h e = absurd (omega arith)
first_later p (suc n) m h e =
    let one : suc n - 1 ≡ n = omega arith in
    cond-false _ _ _ e ∙ (λ i. first_from p (sym one i) (sym (add-one m) i))

-- the records before a question are those before its record
pub before_question : (all front : List Record) (r : Record) (rest : List Record) → all ≡ front ++ r ∷ rest → is_question r ≡ true → before (question_count front) all ≡ front
before_question all front (is.Fact f) rest s e = cc
before_question all front (is.Withdrawal f) rest s e = cc
before_question all front (is.Question q) rest s e = ap (before (question_count front)) s ∙ before_at front q rest
