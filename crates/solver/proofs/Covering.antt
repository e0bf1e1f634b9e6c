-- Each question of a span lies in one of its pieces, and no other question in any.
use Rattle.std.proofs.Common.{◌≡◌, ℕ, ◌+◌, ◌-◌, ◌*◌, ◌<◌, ◌≤◌, Bool, false, cond, ◌&&◌, ltb, leb, ◌⊎◌, List, [], ◌∷◌, ◌++◌, count_by, sym, refl, ap, ◌∙◌, inl, inr, ⊎_elim, arith}
use Rattle.std.proofs.lemmas.Bool.{cases_lt, le-leb, lt-leb, lt-ltb, le-ltb, and_from, and_left, and_right}
use Rattle.solver.specs.Tree.{Node, covers, middle, PiecesPartition}
use Rattle.solver.proofs.Chaining.{count-append}
use Rattle.solver.proofs.Cutting.{by_pieces}

module _ (s e q : ℕ) where
  abbrev held : Bool
  held = leb s q && ltb q e

  abbrev hits : List Node → ℕ
  hits xs = count_by (covers q) xs

  -- of the pieces below a node none holds a question outside it, and a question of the node is in one if the span holds it
  abbrev Hit : ℕ → ℕ → ℕ → List Node → Type 0
  Hit m lo hi xs = ((q < lo) ⊎ (hi ≤ q) → hits xs ≡ 0) × (lo ≤ q → q < hi → hits xs ≡ cond held 1 0)

  hit_none : (m lo hi : ℕ) → lo < hi → (e ≤ lo) ⊎ (hi ≤ s) → Hit m lo hi []
  hit_none m lo hi l c =
      let no : q < hi → lo ≤ q → held ≡ false = λ b a. ⊎_elim (λ (x : e ≤ lo). and_right _ _ (le-ltb q e (omega arith))) (λ (x : hi ≤ s). and_left _ _ (lt-leb s q (omega arith))) c in
      (λ _. refl, λ a b. sym (ap (λ x. cond x 1 0) (no b a)))

  hit_one : (m lo hi : ℕ) → lo < hi → s ≤ lo → hi ≤ e → Hit m lo hi (record { lo = lo; hi = hi } ∷ [])
  hit_one m lo hi l a b = (
    λ c. ap (λ x. 0 + cond x 1 0) (⊎_elim (λ x. and_left (leb lo q) (ltb q hi) (lt-leb lo q x)) (λ x. and_right (leb lo q) (ltb q hi) (le-ltb q hi x)) c),
    λ x y. ap (λ x. 0 + cond x 1 0) (and_from (leb lo q) (ltb q hi) (le-leb lo q x) (lt-ltb q hi y)) ∙ sym (ap (λ x. cond x 1 0) (and_from _ _ (le-leb s q (omega arith)) (lt-ltb q e (omega arith)))),
  )

  hit_both : (m lo hi : ℕ) → 2 ≤ hi - lo → (lo < s) ⊎ (e < hi) → (xs ys : List Node) → Hit (m + 1) lo (middle lo hi) xs → Hit (m + 2 * (middle lo hi - lo)) (middle lo hi) hi ys → Hit m lo hi (xs ++ ys)
  hit_both m lo hi two off xs ys left right =
      let all = count-append (covers q) xs ys in (
        λ c.
            omega (
              arith,
              all,
              left.0 (⊎_elim (λ (a : q < lo). inl a) (λ (b : hi ≤ q). inr (omega arith)) c),
              right.0 (⊎_elim (λ (a : q < lo). inl (omega arith)) (λ (b : hi ≤ q). inr b) c),
            ),
        λ a b.
            ⊎_elim
            (λ (x : q < middle lo hi). omega (arith, all, left.1 a x, right.0 (inl x)))
            (λ (x : middle lo hi ≤ q). omega (arith, all, left.0 (inr x), right.1 x b))
            (cases_lt q (middle lo hi)),
      )

pub pieces_partition : PiecesPartition
pieces_partition t s e q h = (by_pieces s e (Hit s e q) (hit_none s e q) (hit_one s e q) (hit_both s e q) t (omega arith)).1 (omega arith) h
