-- The facts alive after some records: one record more, and how many equal facts there are.
use Rattle.std.proofs.Common.{◌≡◌, ℕ, suc, ◌+◌, ◌<◌, true, false, cond, List, [], ◌∷◌, ◌++◌, length, refl, ap, ◌∙◌, ⊎_elim, add-zero, add-suc, suc-add, arith}
use Rattle.std.proofs.lemmas.List.Sums.{sum_by-cons}
use Rattle.std.proofs.lemmas.Bool.{cases_Bool, cond-true, cond-false}
use Rattle.undoable.specs.declared.facts.Fact.{Fact}
use Rattle.book.specs.declared.records.Record.{Record}
use Rattle.book.specs.declared.records.Record.TheVariants as is
use Rattle.undoable.proofs.Orders.{same_is}
use Rattle.undoable.specs.Kinds.{same}
use Rattle.book.specs.Alive.{Entry, without, alive_from, equal_to}

pub alive_from-append : (n : ℕ) (xs : List Entry) (rs qs : List Record) → alive_from n xs (rs ++ qs) ≡ alive_from (n + length rs) (alive_from n xs rs) qs
alive_from-append n xs [] qs = rw add-zero refl
alive_from-append n xs (is.Fact f ∷ rs) qs = rw (add-suc, ← suc-add) (alive_from-append (suc n) _ rs qs)
alive_from-append n xs (is.Withdrawal f ∷ rs) qs = rw (add-suc, ← suc-add) (alive_from-append (suc n) _ rs qs)
alive_from-append n xs (is.Question q ∷ rs) qs = rw (add-suc, ← suc-add) (alive_from-append (suc n) _ rs qs)

-- equal facts are equal to the same facts
pub same_right : (f g h : Fact) → same g h ≡ true → same f g ≡ same f h
same_right f g h e = ap (same f) (same_is g h e)

-- a withdrawal of g takes one fact away if some fact equal to g is alive
pub equal_to-without : (f g : Fact) (xs : List Entry) → 0 < equal_to g xs → equal_to f (without g xs) + cond (same f g) 1 0 ≡ equal_to f xs
equal_to-without f g [] h = absurd (omega arith)
equal_to-without f g (x ∷ xs) h =
    ⊎_elim
    (λ (e : same g x.fact ≡ true). rw (cond-true _ xs (x ∷ without g xs) e, same_right f g x.fact e) (omega (arith, sum_by-cons (λ y. cond (same f y.fact) 1 0) x xs)))
    (λ (e : same g x.fact ≡ false).
    let less : equal_to g (x ∷ xs) ≡ equal_to g xs = sum_by-cons (λ y. cond (same g y.fact) 1 0) x xs ∙ ap (λ n. n + equal_to g xs) (cond-false _ 1 0 e) ∙ omega arith in
    let more : 0 < equal_to g xs = omega arith in
    rw (cond-false _ xs (x ∷ without g xs) e) (omega (arith, equal_to-without f g xs more, sum_by-cons (λ y. cond (same f y.fact) 1 0) x xs, sum_by-cons (λ y. cond (same f y.fact) 1 0) x (without g xs))))
    (cases_Bool (same g x.fact))

pub length_without : (g : Fact) (xs : List Entry) → 0 < equal_to g xs → length (without g xs) + 1 ≡ length xs
length_without g [] h = absurd (omega arith)
length_without g (x ∷ xs) h =
    ⊎_elim
    (λ (e : same g x.fact ≡ true). rw (cond-true _ xs (x ∷ without g xs) e) (omega arith))
    (λ (e : same g x.fact ≡ false).
    let less : equal_to g (x ∷ xs) ≡ equal_to g xs = sum_by-cons (λ y. cond (same g y.fact) 1 0) x xs ∙ ap (λ n. n + equal_to g xs) (cond-false _ 1 0 e) ∙ omega arith in
    let more : 0 < equal_to g xs = omega arith in
    rw (cond-false _ xs (x ∷ without g xs) e) (omega (arith, length_without g xs more)))
    (cases_Bool (same g x.fact))
