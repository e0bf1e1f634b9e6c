-- A fold over the nodes: at a leaf, and at a node from those at its halves.
use Rattle.std.proofs.Common.{◌≡◌, ℕ, zero, suc, ◌+◌, ◌-◌, ◌*◌, ◌<◌, ◌≤◌, cond, false, leb, ⊎_elim, sym, ap, ◌∙◌, arith}
use Rattle.std.proofs.lemmas.Bool.{cases_lt, cond-true, cond-false, le-leb, lt-leb}
use Rattle.solver.specs.Folds.{fold_below, fold_nodes}
use Rattle.solver.specs.Tree.{middle}

module _ {A : Type 0} (none : A) (leaf : ℕ → ℕ → ℕ → A) (node : ℕ → ℕ → ℕ → A → A → A) where
  abbrev below : ℕ → ℕ → ℕ → ℕ → A
  below n m lo hi = fold_below none leaf node n m lo hi

  -- the depth does not matter if it suffices
  enough : (n k m lo hi : ℕ) → lo < hi → hi - lo ≤ n → hi - lo ≤ k → below n m lo hi ≡ below k m lo hi
  enough zero k m lo hi l a b = absurd (omega arith)
  enough (suc n) zero m lo hi l a b = absurd (omega arith)
  enough (suc n) (suc k) m lo hi l a b =
      ⊎_elim
      (λ (one : hi - lo < 2). let end : leb 2 (hi - lo) ≡ false = lt-leb 2 (hi - lo) one in cond-false _ _ _ end ∙ sym (cond-false _ _ _ end))
      (λ (two : 2 ≤ hi - lo).
      let first = enough n k (m + 1) lo (middle lo hi) (omega arith) (omega arith) (omega arith) in
      let second = enough n k (m + 2 * (middle lo hi - lo)) (middle lo hi) hi (omega arith) (omega arith) (omega arith) in
      λ i. cond (leb 2 (hi - lo)) (node m lo hi (first i) (second i)) (leaf m lo hi))
      (cases_lt (hi - lo) 2)

  pub fold_leaf : (m lo hi : ℕ) → lo < hi → hi - lo < 2 → fold_nodes none leaf node m lo hi ≡ leaf m lo hi
  fold_leaf m lo hi l one =
      let step : hi - lo ≡ suc (hi - lo - 1) = omega arith in
      ap (λ n. below n m lo hi) step ∙ cond-false _ _ _ (lt-leb 2 (hi - lo) one)

  pub fold_node : (m lo hi : ℕ) → 2 ≤ hi - lo → fold_nodes none leaf node m lo hi ≡ node m lo hi (fold_nodes none leaf node (m + 1) lo (middle lo hi)) (fold_nodes none leaf node (m + 2 * (middle lo hi - lo)) (middle lo hi) hi)
  fold_node m lo hi two =
      let n = hi - lo - 1 in
      let step : hi - lo ≡ suc (hi - lo - 1) = omega arith in
      let first = enough n (middle lo hi - lo) (m + 1) lo (middle lo hi) (omega arith) (omega arith) (omega arith) in
      let second = enough n (hi - middle lo hi) (m + 2 * (middle lo hi - lo)) (middle lo hi) hi (omega arith) (omega arith) (omega arith) in
      ap (λ n. below n m lo hi) step ∙ cond-true _ _ _ (le-leb 2 (hi - lo) two) ∙ (λ i. node m lo hi (first i) (second i))
