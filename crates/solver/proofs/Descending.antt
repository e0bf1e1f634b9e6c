-- What holds of the leaves, and of a node if it holds of its halves, holds of all nodes.
use Rattle.std.proofs.Common.{◌≡◌, ℕ, zero, suc, ◌+◌, ◌-◌, ◌*◌, ◌<◌, ◌≤◌, true, false, ◌&&◌, leb, ◌⊎◌, inl, inr, ⊎_elim, arith}
use Rattle.std.proofs.lemmas.Bool.{cases_lt, le-leb, lt-leb, and_from, and_left, and_right}
use Rattle.solver.specs.Tree.{middle}

module _ (P : ℕ → ℕ → ℕ → Type 0) where
  module _ (leaf : (m lo hi : ℕ) → lo < hi → hi - lo < 2 → P m lo hi) (node : (m lo hi : ℕ) → 2 ≤ hi - lo → P (m + 1) lo (middle lo hi) → P (m + 2 * (middle lo hi - lo)) (middle lo hi) hi → P m lo hi) where
    to_depth : (n m lo hi : ℕ) → lo < hi → hi - lo ≤ n → P m lo hi
    to_depth zero m lo hi l f = absurd (omega arith)
    to_depth (suc n) m lo hi l f =
        ⊎_elim
        (λ (one : hi - lo < 2). leaf m lo hi l one)
        (λ (two : 2 ≤ hi - lo). node m lo hi two (to_depth n (m + 1) lo (middle lo hi) (omega arith) (omega arith)) (to_depth n (m + 2 * (middle lo hi - lo)) (middle lo hi) hi (omega arith) (omega arith)))
        (cases_lt (hi - lo) 2)

    pub by_halves : (m lo hi : ℕ) → lo < hi → P m lo hi
    by_halves m lo hi l = to_depth (hi - lo) m lo hi l (omega arith)

  -- the same by the ways in which a node lies to a span
  module _ (s e : ℕ) (apart : (m lo hi : ℕ) → lo < hi → (e ≤ lo) ⊎ (hi ≤ s) → P m lo hi) (inside : (m lo hi : ℕ) → lo < hi → s ≤ lo → hi ≤ e → P m lo hi) (across : (m lo hi : ℕ) → 2 ≤ hi - lo → (lo < s) ⊎ (e < hi) → P (m + 1) lo (middle lo hi) → P (m + 2 * (middle lo hi - lo)) (middle lo hi) hi → P m lo hi) where
    by_place : (m lo hi : ℕ) → lo < hi → ((lo < s) ⊎ (e < hi) → P m lo hi) → P m lo hi
    by_place m lo hi l off =
        ⊎_elim
        (λ (x : lo < s). off (inl x))
        (λ (x : s ≤ lo). ⊎_elim (λ (y : e < hi). off (inr y)) (λ (y : hi ≤ e). inside m lo hi l x y) (cases_lt e hi))
        (cases_lt lo s)

    pub by_overlap : (m lo hi : ℕ) → lo < hi → P m lo hi
    by_overlap =
        by_halves
        (λ m lo hi l one. by_place m lo hi l (λ c. apart m lo hi l (⊎_elim (λ (x : lo < s). inr (omega arith)) (λ (y : e < hi). inl (omega arith)) c)))
        (λ m lo hi two left right. by_place m lo hi (omega arith) (λ c. across m lo hi two c left right))

-- whether a node lies inside a span
pub inside_yes : (s e lo hi : ℕ) → s ≤ lo → hi ≤ e → (leb s lo && leb hi e) ≡ true
inside_yes s e lo hi a b = and_from _ _ (le-leb s lo a) (le-leb hi e b)

pub inside_no : (s e lo hi : ℕ) → (lo < s) ⊎ (e < hi) → (leb s lo && leb hi e) ≡ false
inside_no s e lo hi c = ⊎_elim (λ a. and_left _ _ (lt-leb s lo a)) (λ b. and_right _ _ (lt-leb hi e b)) c
