-- Sums over the nodes that pass a test: they add up, and the pieces of a span are counted by their numbers.
use Rattle.std.proofs.Common.{◌≡◌, ℕ, ◌+◌, ◌-◌, ◌*◌, ◌<◌, ◌≤◌, Bool, true, false, cond, eqb, ◌⊎◌, List, [], ◌∷◌, ◌++◌, count_by, sum_by, replicate, sym, refl, ap, ◌∙◌, inl, inr, ⊎_elim, zero-add, arith}
use Rattle.std.proofs.lemmas.List.Sums.{sum_by-cons}
use Rattle.std.proofs.lemmas.Bool.{cases_lt, eq-eqb, ne_eqb}
use Rattle.solver.specs.Chains.{times_in}
use Rattle.solver.specs.Folds.{numbers_of, sum_nodes}
use Rattle.solver.specs.Laid.{Spanned, laid}
use Rattle.solver.specs.Tree.{Node, middle, pieces_of}
use Rattle.solver.proofs.Chaining.{count-append}
use Rattle.solver.proofs.Cutting.{by_pieces}
use Rattle.solver.proofs.Descending.{by_halves}
use Rattle.solver.proofs.Folding.{fold_leaf, fold_node}
use Rattle.solver.proofs.Numbering.{numbers_apart, numbers_whole, numbers_parts, numbers_range}

-- a choice of a sum is a sum of choices
split : (b : Bool) (x y : ℕ) → cond b (x + y) 0 ≡ cond b x 0 + cond b y 0
split true x y = refl
split false x y = refl

nothing : (b : Bool) → cond {A = ℕ} b 0 0 ≡ 0
nothing true = refl
nothing false = refl

module _ (c : ℕ → ℕ → Bool) where
  abbrev S : (ℕ → ℕ) → ℕ → ℕ → ℕ → ℕ
  S h m lo hi = sum_nodes c h m lo hi

  pub sum_leaf : (h : ℕ → ℕ) (m lo hi : ℕ) → lo < hi → hi - lo < 2 → S h m lo hi ≡ cond (c lo hi) (h m) 0
  sum_leaf h m lo hi l one = fold_leaf 0 (λ m lo hi. cond (c lo hi) (h m) 0) (λ m lo hi a b. cond (c lo hi) (h m) 0 + (a + b)) m lo hi l one

  pub sum_node : (h : ℕ → ℕ) (m lo hi : ℕ) → 2 ≤ hi - lo → S h m lo hi ≡ cond (c lo hi) (h m) 0 + (S h (m + 1) lo (middle lo hi) + S h (m + 2 * (middle lo hi - lo)) (middle lo hi) hi)
  sum_node h m lo hi two = fold_node 0 (λ m lo hi. cond (c lo hi) (h m) 0) (λ m lo hi a b. cond (c lo hi) (h m) 0 + (a + b)) m lo hi two

  pub sum_add : (a b : ℕ → ℕ) (m lo hi : ℕ) → lo < hi → S (λ k. a k + b k) m lo hi ≡ S a m lo hi + S b m lo hi
  sum_add a b =
      by_halves (λ m lo hi. S (λ k. a k + b k) m lo hi ≡ S a m lo hi + S b m lo hi)
      (λ m lo hi l one. omega (arith, sum_leaf (λ k. a k + b k) m lo hi l one, sum_leaf a m lo hi l one, sum_leaf b m lo hi l one, split (c lo hi) (a m) (b m)))
      (λ m lo hi two left right. omega (arith, sum_node (λ k. a k + b k) m lo hi two, sum_node a m lo hi two, sum_node b m lo hi two, split (c lo hi) (a m) (b m), left, right))

  -- a weight that is 0 at all numbers of a node and those below it
  pub sum_zero : (h : ℕ → ℕ) (m lo hi : ℕ) → lo < hi → ((k : ℕ) → m ≤ k → k + 2 ≤ m + 2 * (hi - lo) → h k ≡ 0) → S h m lo hi ≡ 0
  sum_zero h =
      by_halves (λ m lo hi. ((k : ℕ) → m ≤ k → k + 2 ≤ m + 2 * (hi - lo) → h k ≡ 0) → S h m lo hi ≡ 0)
      (λ m lo hi l one z. sum_leaf h m lo hi l one ∙ ap (λ x. cond (c lo hi) x 0) (z m (omega arith) (omega arith)) ∙ nothing (c lo hi))
      (λ m lo hi two left right z.
      let here = ap (λ x. cond (c lo hi) x 0) (z m (omega arith) (omega arith)) ∙ nothing (c lo hi) in
      omega (arith, sum_node h m lo hi two, here, left (λ k a b. z k (omega arith) (omega arith)), right (λ k a b. z k (omega arith) (omega arith))))

  -- a weight that is taken or not
  sum_if : (b : Bool) (h : ℕ → ℕ) (m lo hi : ℕ) → lo < hi → S (λ k. cond b (h k) 0) m lo hi ≡ cond b (S h m lo hi) 0
  sum_if true h m lo hi l = refl
  sum_if false h m lo hi l = sum_zero (λ k. 0) m lo hi l (λ k a b. refl)

  -- no node passes the test
  pub sum_off : (h : ℕ → ℕ) (P : ℕ → ℕ → Type 0) → ((lo hi : ℕ) → P lo hi → c lo hi ≡ false) → ((lo hi : ℕ) → 2 ≤ hi - lo → P lo hi → P lo (middle lo hi) × P (middle lo hi) hi) → (m lo hi : ℕ) → lo < hi → P lo hi → S h m lo hi ≡ 0
  sum_off h P off down =
      by_halves (λ m lo hi. P lo hi → S h m lo hi ≡ 0)
      (λ m lo hi l one p. sum_leaf h m lo hi l one ∙ ap (λ b. cond b (h m) 0) (off lo hi p))
      (λ m lo hi two left right p.
      let d = down lo hi two p in
      omega (arith, sum_node h m lo hi two, ap (λ b. cond b (h m) 0) (off lo hi p), left d.0, right d.1))

  -- the nodes of a list that pass it
  abbrev tested : List Node → ℕ
  tested vs = count_by (λ v. c v.lo v.hi) vs

  -- the pieces of a span
  module _ (s e : ℕ) where
    abbrev numbered : ℕ → ℕ → ℕ → ℕ → ℕ
    numbered m lo hi k = times_in k (numbers_of (s, e) m lo hi)

    abbrev Counted : ℕ → ℕ → ℕ → List Node → Type 0
    Counted m lo hi vs = S (numbered m lo hi) m lo hi ≡ tested vs

    counted_none : (m lo hi : ℕ) → lo < hi → (e ≤ lo) ⊎ (hi ≤ s) → Counted m lo hi []
    counted_none m lo hi l off = ap (λ xs. S (λ k. times_in k xs) m lo hi) (numbers_apart s e m lo hi l off) ∙ sum_zero (λ k. 0) m lo hi l (λ k a b. refl)

    counted_one : (m lo hi : ℕ) → lo < hi → s ≤ lo → hi ≤ e → Counted m lo hi (record { lo = lo; hi = hi } ∷ [])
    counted_one m lo hi l a b =
        let only : ℕ → ℕ = λ k. times_in k (m ∷ []) in
        let here : times_in m (m ∷ []) ≡ 1 = ap (λ b. 0 + cond b 1 0) (eq-eqb m m refl) in
        let off : (k : ℕ) → (k ≡ m → ⊥) → times_in k (m ∷ []) ≡ 0 = λ k ne. ap (λ b. 0 + cond b 1 0) (ne_eqb k m ne) in
        ap (λ xs. S (λ k. times_in k xs) m lo hi) (numbers_whole s e m lo hi l a b)
        ∙ ⊎_elim
        (λ (one : hi - lo < 2). sum_leaf only m lo hi l one)
        (λ (two : 2 ≤ hi - lo).
        omega (
          arith,
          sum_node only m lo hi two,
          sum_zero only (m + 1) lo (middle lo hi) (omega arith) (λ k u v. off k (λ z. omega arith)),
          sum_zero only (m + 2 * (middle lo hi - lo)) (middle lo hi) hi (omega arith) (λ k u v. off k (λ z. omega arith)),
        ))
        (cases_lt (hi - lo) 2)
        ∙ ap (λ x. cond (c lo hi) x 0) here
        ∙ sym (zero-add (cond (c lo hi) 1 0))

    counted_both : (m lo hi : ℕ) → 2 ≤ hi - lo → (lo < s) ⊎ (e < hi) → (vs ws : List Node) → Counted (m + 1) lo (middle lo hi) vs → Counted (m + 2 * (middle lo hi - lo)) (middle lo hi) hi ws → Counted m lo hi (vs ++ ws)
    counted_both m lo hi two off vs ws left right =
        let mid = middle lo hi in
        let r = m + 2 * (middle lo hi - lo) in
        let L = numbers_of (s, e) (m + 1) lo mid in
        let R = numbers_of (s, e) r mid hi in
        let both : ℕ → ℕ = λ k. times_in k L + times_in k R in
        let here : both m ≡ 0 = omega (arith, numbers_range s e m (m + 1) lo mid (omega arith) (inl (omega arith)), numbers_range s e m r mid hi (omega arith) (inl (omega arith))) in
        ap (λ xs. S (λ k. times_in k xs) m lo hi) (numbers_parts s e m lo hi off two)
        ∙ (λ i. S (λ k. count-append (eqb k) L R i) m lo hi)
        ∙ omega (
          arith,
          sum_node both m lo hi two,
          ap (λ x. cond (c lo hi) x 0) here,
          nothing (c lo hi),
          sum_add (λ k. times_in k L) (λ k. times_in k R) (m + 1) lo mid (omega arith),
          sum_add (λ k. times_in k L) (λ k. times_in k R) r mid hi (omega arith),
          sum_zero (λ k. times_in k R) (m + 1) lo mid (omega arith) (λ k a b. numbers_range s e k r mid hi (omega arith) (inl (omega arith))),
          sum_zero (λ k. times_in k L) r mid hi (omega arith) (λ k a b. numbers_range s e k (m + 1) lo mid (omega arith) (inr (omega arith))),
          left,
          right,
          count-append (λ (v : Node). c v.lo v.hi) vs ws,
        )

    sum_pieces : (t : ℕ) → 0 < t → S (numbered 0 0 t) 0 0 t ≡ tested (pieces_of t (s, e))
    sum_pieces t some = by_pieces s e Counted counted_none counted_one counted_both t some

  -- what is laid, by a measure of lists that adds up
  module _ (t : ℕ) (some : 0 < t) (μ : List ℕ → ℕ) (u : ℕ → Bool) (none : μ [] ≡ 0) (both : (xs ys : List ℕ) → μ (xs ++ ys) ≡ μ xs + μ ys) (copies : (n i : ℕ) → μ (replicate n i) ≡ cond (u i) n 0) where
    pub sum_laid : (xs : List Spanned) → S (λ m. μ (laid t xs m)) 0 0 t ≡ sum_by (λ x. cond (u x.number) (tested (pieces_of t x.span)) 0) xs
    sum_laid [] = (λ i. S (λ m. none i) 0 0 t) ∙ sum_zero (λ m. 0) 0 0 t some (λ k a b. refl)
    sum_laid (x ∷ xs) =
        let count : ℕ → ℕ = λ m. times_in m (numbers_of x.span 0 0 t) in
        (λ i. S (λ m. (both (laid t xs m) (replicate (count m) x.number) ∙ ap (λ n. μ (laid t xs m) + n) (copies (count m) x.number)) i) 0 0 t)
        ∙ sum_add (λ m. μ (laid t xs m)) (λ m. cond (u x.number) (count m) 0) 0 0 t some
        ∙ omega (
          arith,
          sum_laid xs,
          sum_if (u x.number) count 0 0 t some,
          ap (λ n. cond (u x.number) n 0) (sum_pieces x.span.0 x.span.1 t some),
          sum_by-cons (λ (y : Spanned). cond (u y.number) (tested (pieces_of t y.span)) 0) x xs,
        )
