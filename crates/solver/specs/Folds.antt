-- What is worked out over a node of the tree and those below it, for private contracts.
-- Nodes are numbered in preorder: the first child of node number m is m + 1, the second comes after all below the first.
use Rattle.std.specs.Prelude.{ℕ, zero, suc, ◌+◌, ◌-◌, ◌*◌, Bool, true, cond, ◌&&◌, List, [], ◌∷◌, ◌++◌, length, nat_le, nat_lt}
use Rattle.undoable.specs.declared.facts.Fact.{Fact}
use Rattle.solver.specs.Tree.{middle}

module _ {A : Type 0} (none : A) (leaf : ℕ → ℕ → ℕ → A) (node : ℕ → ℕ → ℕ → A → A → A) where
  -- from what is worked out of its halves, to depth n; the node (lo, hi) has number m
  abbrev pub fold_below : ℕ → ℕ → ℕ → ℕ → A
  fold_below zero m lo hi = none
  fold_below (suc n) m lo hi =
      cond (nat_le 2 (hi - lo)) (node m lo hi (fold_below n (m + 1) lo (middle lo hi)) (fold_below n (m + 2 * (middle lo hi - lo)) (middle lo hi) hi)) (leaf m lo hi)

  -- no way down from a node is longer than it has questions
  abbrev pub fold_nodes : ℕ → ℕ → ℕ → A
  fold_nodes m lo hi = fold_below (hi - lo) m lo hi

-- the numbers of a span's pieces
abbrev pub numbers_of : ℕ × ℕ → ℕ → ℕ → ℕ → List ℕ
numbers_of x m lo hi =
    fold_nodes [] (λ m lo hi. cond (nat_le x.0 lo && nat_le hi x.1) (m ∷ []) []) (λ m lo hi ls rs. cond (nat_le x.0 lo && nat_le hi x.1) (m ∷ []) (ls ++ rs)) m lo hi

-- the sum of h over the nodes that pass a test
abbrev pub sum_nodes : (ℕ → ℕ → Bool) → (ℕ → ℕ) → ℕ → ℕ → ℕ → ℕ
sum_nodes c h m lo hi = fold_nodes 0 (λ m lo hi. cond (c lo hi) (h m) 0) (λ m lo hi a b. cond (c lo hi) (h m) 0 + (a + b)) m lo hi

-- how many facts lie at the nodes, of which g are those at each
abbrev pub weight : (ℕ → List Fact) → ℕ → ℕ → ℕ → ℕ
weight g m lo hi = sum_nodes (λ _ _. true) (λ k. length (g k)) m lo hi

-- facts pushed one after the other on a stack
abbrev pub onto : List Fact → List Fact → List Fact
onto [] st = st
onto (f ∷ fs) st = onto fs (f ∷ st)

-- the stack at question q, if the facts of each node down to the question are pushed on st
abbrev pub stack_to : (ℕ → List Fact) → ℕ → ℕ → ℕ → ℕ → List Fact → List Fact
stack_to g m lo hi q st =
    fold_nodes {A = List Fact → List Fact} (λ st. st) (λ m lo hi st. onto (g m) st) (λ m lo hi first second st. cond (nat_lt q (middle lo hi)) (first (onto (g m) st)) (second (onto (g m) st))) m lo hi st
