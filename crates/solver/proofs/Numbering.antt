-- The numbers of a span's pieces below a node, by the ways in which it lies to the span.
use Rattle.std.proofs.Common.{◌≡◌, ℕ, ◌+◌, ◌-◌, ◌*◌, ◌<◌, ◌≤◌, cond, ◌&&◌, eqb, leb, ◌⊎◌, List, [], ◌∷◌, ◌++◌, length, ap, ◌∙◌, inl, inr, ⊎_elim, arith}
use Rattle.std.proofs.lemmas.List.{length-append}
use Rattle.std.proofs.lemmas.Bool.{cases_lt, cond-true, cond-false, ne_eqb}
use Rattle.solver.specs.Chains.{times_in}
use Rattle.solver.specs.Folds.{numbers_of}
use Rattle.solver.specs.Tree.{middle}
use Rattle.solver.proofs.Chaining.{count-append}
use Rattle.solver.proofs.Descending.{by_halves, by_overlap, inside_yes, inside_no}
use Rattle.solver.proofs.Folding.{fold_leaf, fold_node}

module _ (s e : ℕ) where
  abbrev N : ℕ → ℕ → ℕ → List ℕ
  N m lo hi = numbers_of (s, e) m lo hi

  abbrev leaf : ℕ → ℕ → ℕ → List ℕ
  leaf m lo hi = cond (leb s lo && leb hi e) (m ∷ []) []

  abbrev node : ℕ → ℕ → ℕ → List ℕ → List ℕ → List ℕ
  node m lo hi ls rs = cond (leb s lo && leb hi e) (m ∷ []) (ls ++ rs)

  pub numbers_whole : (m lo hi : ℕ) → lo < hi → s ≤ lo → hi ≤ e → N m lo hi ≡ m ∷ []
  numbers_whole m lo hi l a b =
      ⊎_elim
      (λ (one : hi - lo < 2). fold_leaf [] leaf node m lo hi l one ∙ cond-true _ _ _ (inside_yes s e lo hi a b))
      (λ (two : 2 ≤ hi - lo). fold_node [] leaf node m lo hi two ∙ cond-true _ _ _ (inside_yes s e lo hi a b))
      (cases_lt (hi - lo) 2)

  pub numbers_parts : (m lo hi : ℕ) → (lo < s) ⊎ (e < hi) → 2 ≤ hi - lo → N m lo hi ≡ N (m + 1) lo (middle lo hi) ++ N (m + 2 * (middle lo hi - lo)) (middle lo hi) hi
  numbers_parts m lo hi c two = fold_node [] leaf node m lo hi two ∙ cond-false _ _ _ (inside_no s e lo hi c)

  pub numbers_apart : (m lo hi : ℕ) → lo < hi → (e ≤ lo) ⊎ (hi ≤ s) → N m lo hi ≡ []
  numbers_apart =
      by_halves (λ m lo hi. (e ≤ lo) ⊎ (hi ≤ s) → N m lo hi ≡ [])
      (λ m lo hi l one c. fold_leaf [] leaf node m lo hi l one ∙ cond-false _ _ _ (inside_no s e lo hi (⊎_elim (λ (a : e ≤ lo). inr (omega arith)) (λ (b : hi ≤ s). inl (omega arith)) c)))
      (λ m lo hi two left right c.
      numbers_parts m lo hi (⊎_elim (λ (a : e ≤ lo). inr (omega arith)) (λ (b : hi ≤ s). inl (omega arith)) c) two
      ∙ (λ i. left (⊎_elim (λ (a : e ≤ lo). inl a) (λ (b : hi ≤ s). inr (omega arith)) c) i ++ right (⊎_elim (λ (a : e ≤ lo). inl (omega arith)) (λ (b : hi ≤ s). inr b) c) i))

  -- how many there are: of a node across an end of the span as of its halves together, and at most one for each question
  pub length_parts : (m lo hi : ℕ) → (lo < s) ⊎ (e < hi) → 2 ≤ hi - lo → length (N m lo hi) ≡ length (N (m + 1) lo (middle lo hi)) + length (N (m + 2 * (middle lo hi - lo)) (middle lo hi) hi)
  length_parts m lo hi c two = ap length (numbers_parts m lo hi c two) ∙ length-append (N (m + 1) lo (middle lo hi)) (N (m + 2 * (middle lo hi - lo)) (middle lo hi) hi)

  pub numbers_few : (m lo hi : ℕ) → lo < hi → length (N m lo hi) ≤ hi - lo
  numbers_few =
      by_overlap (λ m lo hi. length (N m lo hi) ≤ hi - lo) s e
      (λ m lo hi l c. omega (arith, ap length (numbers_apart m lo hi l c)))
      (λ m lo hi l a b. omega (arith, ap length (numbers_whole m lo hi l a b)))
      (λ m lo hi two c left right. omega (arith, length_parts m lo hi c two, left, right))

  -- they are of the node and those below it
  pub numbers_range : (k m lo hi : ℕ) → lo < hi → (k < m) ⊎ (m + 2 * (hi - lo) ≤ k + 1) → times_in k (N m lo hi) ≡ 0
  numbers_range k =
      by_overlap (λ m lo hi. (k < m) ⊎ (m + 2 * (hi - lo) ≤ k + 1) → times_in k (N m lo hi) ≡ 0) s e
      (λ m lo hi l c _. ap (times_in k) (numbers_apart m lo hi l c))
      (λ m lo hi l a b c.
      let ne : k ≡ m → ⊥ = λ x. ⊎_elim (λ (a : k < m). omega arith) (λ (b : m + 2 * (hi - lo) ≤ k + 1). omega arith) c in
      ap (times_in k) (numbers_whole m lo hi l a b) ∙ ap (λ b. 0 + cond b 1 0) (ne_eqb k m ne))
      (λ m lo hi two off left right c.
      let first = left (⊎_elim (λ (a : k < m). inl (omega arith)) (λ (b : m + 2 * (hi - lo) ≤ k + 1). inr (omega arith)) c) in
      let second = right (⊎_elim (λ (a : k < m). inl (omega arith)) (λ (b : m + 2 * (hi - lo) ≤ k + 1). inr (omega arith)) c) in
      ap (times_in k) (numbers_parts m lo hi off two) ∙ count-append (λ x. eqb k x) (N (m + 1) lo (middle lo hi)) (N (m + 2 * (middle lo hi - lo)) (middle lo hi) hi) ∙ omega (arith, first, second))
