-- The questions before a withdrawal, record by record.
use Rattle.std.proofs.Common.{◌≡◌, ℕ, zero, suc, ◌+◌, ◌-◌, ◌<◌, ◌≤◌, true, cond, List, ◌∷◌, sym, ap, ◌∙◌, ⊎_elim, arith}
use Rattle.std.proofs.lemmas.Bool.{cases_Bool, cond-true, cond-false}
use Rattle.undoable.specs.declared.facts.Fact.{Fact}
use Rattle.book.specs.declared.records.Record.{Record}
use Rattle.book.specs.declared.records.Record.TheVariants as is
use Rattle.book.specs.Records.{withdraws, is_question}
use Rattle.undoable.specs.Kinds.{same}
use Rattle.book.specs.Spans.{until}

-- a record that does not end the fact
pub until_more : (f : Fact) (k : ℕ) (r : Record) (rs : List Record) → cond (withdraws f r) 1 0 ≤ k → until f k (r ∷ rs) ≡ cond (is_question r) 1 0 + until f (k - cond (withdraws f r) 1 0) rs
until_more f k (is.Fact g) rs h = let z : k - 0 ≡ k = omega arith in rw z (omega arith)
until_more f k (is.Question q) rs h = let z : k - 0 ≡ k = omega arith in rw z (omega arith)
until_more f zero (is.Withdrawal g) rs h =
    ⊎_elim
    (λ (e : same f g ≡ true). absurd (omega (arith, cond-true {A = ℕ} (same f g) 1 0 e)))
    (λ e. let z : cond (same f g) 1 0 ≡ 0 = cond-false _ _ _ e in cond-false _ _ _ e ∙ sym (ap (λ n. 0 + until f (0 - n) rs) z ∙ omega arith))
    (cases_Bool (same f g))
until_more f (suc k) (is.Withdrawal g) rs h =
    ⊎_elim
    (λ e. let z : suc k - cond (same f g) 1 0 ≡ k = ap (λ n. suc k - n) (cond-true _ 1 0 e) ∙ omega arith in cond-true _ _ _ e ∙ sym (ap (λ n. 0 + until f n rs) z ∙ omega arith))
    (λ e. let z : suc k - cond (same f g) 1 0 ≡ suc k = ap (λ n. suc k - n) (cond-false _ 1 0 e) ∙ omega arith in cond-false _ _ _ e ∙ sym (ap (λ n. 0 + until f n rs) z ∙ omega arith))
    (cases_Bool (same f g))

-- such a record that is an equal withdrawal
pub until_next : (f : Fact) (k : ℕ) (r : Record) (rs : List Record) → withdraws f r ≡ true → 0 < k → until f k (r ∷ rs) ≡ until f (k - 1) rs
until_next f k (is.Fact g) rs e h = cc
until_next f k (is.Question q) rs e h = cc
until_next f zero (is.Withdrawal g) rs e h = absurd (omega arith)
until_next f (suc k) (is.Withdrawal g) rs e h = let less : k ≡ suc k - 1 = omega arith in cond-true _ _ _ e ∙ ap (λ n. until f n rs) less
