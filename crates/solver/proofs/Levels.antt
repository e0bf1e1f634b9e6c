-- The stack at a question and the facts below a node: one level of the tree at a time.
use Rattle.std.proofs.Common.{◌≡◌, ℕ, ◌+◌, ◌-◌, ◌*◌, ◌<◌, ◌≤◌, cond, ltb, List, [], ◌∷◌, length, drop, sym, refl, ap, ◌∙◌, ⊎_elim, add-one, arith}
use Rattle.std.proofs.lemmas.List.{drop-drop}
use Rattle.std.proofs.lemmas.Bool.{cases_lt, cond-true, cond-false, lt-ltb, le-ltb}
use Rattle.undoable.specs.declared.facts.Fact.{Fact}
use Rattle.undoable.specs.Calls.{cut_to}
use Rattle.solver.specs.Folds.{onto, stack_to, weight}
use Rattle.solver.specs.Tree.{middle}
use Rattle.solver.proofs.Descending.{by_halves}
use Rattle.solver.proofs.Folding.{fold_leaf, fold_node}

pub length-onto : (fs st : List Fact) → length (onto fs st) ≡ length fs + length st
length-onto [] st = omega arith
length-onto (f ∷ fs) st = omega (arith, length-onto fs (f ∷ st))

drop-onto : (fs st : List Fact) → drop (length fs) (onto fs st) ≡ st
drop-onto [] st = refl
drop-onto (f ∷ fs) st =
    ap (λ k. drop k (onto fs (f ∷ st))) (sym (add-one (length fs))) ∙ sym (drop-drop 1 (length fs) (onto fs (f ∷ st))) ∙ ap (drop 1) (drop-onto fs (f ∷ st))

pub cut-onto : (fs st : List Fact) → cut_to (length st) (onto fs st) ≡ st
cut-onto fs st = let n : length (onto fs st) - length st ≡ length fs = omega (arith, length-onto fs st) in ap (λ k. drop k (onto fs st)) n ∙ drop-onto fs st

module _ (g : ℕ → List Fact) where
  pub weight_leaf : (m lo hi : ℕ) → lo < hi → hi - lo < 2 → weight g m lo hi ≡ length (g m)
  weight_leaf m lo hi l one = fold_leaf 0 (λ m lo hi. length (g m)) (λ m lo hi a b. length (g m) + (a + b)) m lo hi l one

  pub weight_parts : (m lo hi : ℕ) → 2 ≤ hi - lo → weight g m lo hi ≡ length (g m) + (weight g (m + 1) lo (middle lo hi) + weight g (m + 2 * (middle lo hi - lo)) (middle lo hi) hi)
  weight_parts m lo hi two = fold_node 0 (λ m lo hi. length (g m)) (λ m lo hi a b. length (g m) + (a + b)) m lo hi two

  module _ (q : ℕ) where
    abbrev leaf : ℕ → ℕ → ℕ → List Fact → List Fact
    leaf m lo hi st = onto (g m) st

    abbrev node : ℕ → ℕ → ℕ → (List Fact → List Fact) → (List Fact → List Fact) → List Fact → List Fact
    node m lo hi first second st = cond (ltb q (middle lo hi)) (first (onto (g m) st)) (second (onto (g m) st))

    pub stack_leaf : (m lo hi : ℕ) → lo < hi → hi - lo < 2 → (st : List Fact) → stack_to g m lo hi q st ≡ onto (g m) st
    stack_leaf m lo hi l one st = ap (λ f. f st) (fold_leaf (λ s. s) leaf node m lo hi l one)

    module _ (m lo hi : ℕ) (two : 2 ≤ hi - lo) (st : List Fact) where
      pub stack_left : q < middle lo hi → stack_to g m lo hi q st ≡ stack_to g (m + 1) lo (middle lo hi) q (onto (g m) st)
      stack_left h = ap (λ f. f st) (fold_node (λ s. s) leaf node m lo hi two) ∙ cond-true _ _ _ (lt-ltb q (middle lo hi) h)

      pub stack_right : middle lo hi ≤ q → stack_to g m lo hi q st ≡ stack_to g (m + 2 * (middle lo hi - lo)) (middle lo hi) hi q (onto (g m) st)
      stack_right h = ap (λ f. f st) (fold_node (λ s. s) leaf node m lo hi two) ∙ cond-false _ _ _ (le-ltb q (middle lo hi) h)

    -- a stack with a node's facts is no higher than at a question below it
    pub stack_above : (m lo hi : ℕ) → lo < hi → (st : List Fact) → length (onto (g m) st) ≤ length (stack_to g m lo hi q st)
    stack_above =
        by_halves (λ m lo hi. (st : List Fact) → length (onto (g m) st) ≤ length (stack_to g m lo hi q st))
        (λ m lo hi l one st. omega (arith, ap length (stack_leaf m lo hi l one st)))
        (λ m lo hi two left right st.
        let up = onto (g m) st in
        ⊎_elim
        (λ (h : q < middle lo hi). omega (arith, ap length (stack_left m lo hi two st h), left up, length-onto (g (m + 1)) up))
        (λ (h : middle lo hi ≤ q). omega (arith, ap length (stack_right m lo hi two st h), right up, length-onto (g (m + 2 * (middle lo hi - lo))) up))
        (cases_lt q (middle lo hi)))
