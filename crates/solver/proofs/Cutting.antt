-- The pieces below a node: none if it is apart from the span, itself if it is inside, else those of its halves. What holds by these
-- three ways holds of all pieces.
use Rattle.std.proofs.Common.{◌≡◌, ℕ, zero, suc, ◌+◌, ◌-◌, ◌*◌, ◌<◌, ◌≤◌, Bool, true, false, cond, not, ltb, leb, ◌⊎◌, List, [], ◌∷◌, ◌++◌, map, Some, None, filter, Option, sym, refl, ap, ◌∙◌, subst, inl, inr, ⊎_elim, arith}
use Rattle.std.proofs.lemmas.List.Elements.{filter-append}
use Rattle.std.proofs.lemmas.List.{map-append}
use Rattle.std.proofs.lemmas.Bool.{cases_Bool, cases_lt, cond-true, cond-false, le-leb, lt-leb, lt-ltb, and_from, and_left, and_right}
use Rattle.solver.proofs.Descending.{by_overlap, inside_yes, inside_no}
use Rattle.solver.specs.Tree.{Node, Placed, middle, nodes_from, parent_inside, is_piece, pieces_below, pieces_of}

module _ (s e : ℕ) where
  abbrev span : ℕ × ℕ
  span = (s, e)

  abbrev at : ℕ → ℕ → Node
  at lo hi = record { lo = lo; hi = hi }

  abbrev below : ℕ → Option Node → ℕ → ℕ → List Node
  below n p lo hi = pieces_below span n p lo hi

  -- the two children's pieces, if there are children
  abbrev halves : ℕ → ℕ → ℕ → List Node
  halves n lo hi = below n (Some (at lo hi)) lo (middle lo hi) ++ below n (Some (at lo hi)) (middle lo hi) hi

  abbrev children : ℕ → ℕ → ℕ → List Placed
  children n lo hi = cond (leb 2 (hi - lo)) (nodes_from n (Some (at lo hi)) lo (middle lo hi) ++ nodes_from n (Some (at lo hi)) (middle lo hi) hi) []

  -- what is kept of the children
  lower : (n lo hi : ℕ) → map (λ v. v.node) (filter (is_piece span) (children n lo hi)) ≡ cond (leb 2 (hi - lo)) (halves n lo hi) []
  lower n lo hi =
      ⊎_elim
      (λ (h : leb 2 (hi - lo) ≡ true).
      ap (λ l. map (λ v. v.node) (filter (is_piece span) l)) (cond-true _ _ _ h)
      ∙ ap (map (λ (v : Placed). v.node)) (filter-append (is_piece span) (nodes_from n (Some (at lo hi)) lo (middle lo hi)) (nodes_from n (Some (at lo hi)) (middle lo hi) hi))
      ∙ map-append (λ (v : Placed). v.node) (filter (is_piece span) (nodes_from n (Some (at lo hi)) lo (middle lo hi))) (filter (is_piece span) (nodes_from n (Some (at lo hi)) (middle lo hi) hi))
      ∙ sym (cond-true _ _ _ h))
      (λ (h : leb 2 (hi - lo) ≡ false). ap (λ l. map (λ v. v.node) (filter (is_piece span) l)) (cond-false _ _ _ h) ∙ sym (cond-false _ _ _ h))
      (cases_Bool (leb 2 (hi - lo)))

  -- a node that is no piece itself
  skipped : (n lo hi : ℕ) (p : Option Node) → is_piece span (record { node = at lo hi; parent = p }) ≡ false → below (suc n) p lo hi ≡ cond (leb 2 (hi - lo)) (halves n lo hi) []
  skipped n lo hi p h = ap (map (λ (v : Placed). v.node)) (cond-false _ _ _ h) ∙ lower n lo hi

  -- below a node inside the span there is no piece
  none_inside : (n lo hi : ℕ) (p : Option Node) → parent_inside span p ≡ true → s ≤ lo → lo ≤ hi → hi ≤ e → below n p lo hi ≡ []
  none_inside zero lo hi p i a l b = refl
  none_inside (suc n) lo hi p i a l b =
      let no : is_piece span (record { node = at lo hi; parent = p }) ≡ false = and_right _ _ (ap not i) in
      let v = inside_yes s e lo hi a b in
      let left = none_inside n lo (middle lo hi) (Some (at lo hi)) v a (omega arith) (omega arith) in
      let right = none_inside n (middle lo hi) hi (Some (at lo hi)) v (omega arith) (omega arith) b in
      skipped n lo hi p no ∙ ap (λ l. cond (leb 2 (hi - lo)) l []) (λ j. left j ++ right j) ∙ both (leb 2 (hi - lo))
    where
      both : (b : Bool) → cond b (◌++◌ {A = Node} [] []) [] ≡ []
      both true = refl
      both false = refl

  -- a node inside the span whose parent is not
  whole : (n lo hi : ℕ) (p : Option Node) → parent_inside span p ≡ false → s ≤ lo → lo ≤ hi → hi ≤ e → below (suc n) p lo hi ≡ at lo hi ∷ []
  whole n lo hi p o a l b =
      let v = inside_yes s e lo hi a b in
      let yes-piece : is_piece span (record { node = at lo hi; parent = p }) ≡ true = and_from _ _ v (ap not o) in
      let left = none_inside n lo (middle lo hi) (Some (at lo hi)) v a (omega arith) (omega arith) in
      let right = none_inside n (middle lo hi) hi (Some (at lo hi)) v (omega arith) (omega arith) b in
      ap (map (λ (x : Placed). x.node)) (cond-true _ _ _ yes-piece)
      ∙ ap (λ l. at lo hi ∷ l) (lower n lo hi ∙ ap (λ l. cond (leb 2 (hi - lo)) l []) (λ j. left j ++ right j) ∙ both (leb 2 (hi - lo)))
    where
      both : (b : Bool) → cond b (◌++◌ {A = Node} [] []) [] ≡ []
      both true = refl
      both false = refl

  -- a node that is not inside: its halves
  parts : (n lo hi : ℕ) (p : Option Node) → (lo < s) ⊎ (e < hi) → 2 ≤ hi - lo → below (suc n) p lo hi ≡ halves n lo hi
  parts n lo hi p c two = skipped n lo hi p (and_left _ _ (inside_no s e lo hi c)) ∙ cond-true _ _ _ (le-leb 2 (hi - lo) two)

  -- one question that is not inside
  leaf : (n lo hi : ℕ) (p : Option Node) → (lo < s) ⊎ (e < hi) → hi - lo < 2 → below (suc n) p lo hi ≡ []
  leaf n lo hi p c one = skipped n lo hi p (and_left _ _ (inside_no s e lo hi c)) ∙ cond-false _ _ _ (lt-leb 2 (hi - lo) one)

  -- a node apart from the span
  apart : (n lo hi : ℕ) (p : Option Node) → lo < hi → (e ≤ lo) ⊎ (hi ≤ s) → below n p lo hi ≡ []
  apart zero lo hi p l c = refl
  apart (suc n) lo hi p l c =
      let no : (lo < s) ⊎ (e < hi) = ⊎_elim (λ (a : e ≤ lo). inr (omega arith)) (λ (b : hi ≤ s). inl (omega arith)) c in
      ⊎_elim
      (λ (one : hi - lo < 2). leaf n lo hi p no one)
      (λ (two : 2 ≤ hi - lo).
      let left = apart n lo (middle lo hi) (Some (at lo hi)) (omega arith) (⊎_elim (λ (a : e ≤ lo). inl a) (λ (b : hi ≤ s). inr (omega arith)) c) in
      let right = apart n (middle lo hi) hi (Some (at lo hi)) (omega arith) (⊎_elim (λ (a : e ≤ lo). inl (omega arith)) (λ (b : hi ≤ s). inr b) c) in
      parts n lo hi p no two ∙ (λ j. left j ++ right j))
      (cases_lt (hi - lo) 2)

  module _ (Q : ℕ → ℕ → ℕ → List Node → Type 0) (none : (m lo hi : ℕ) → lo < hi → (e ≤ lo) ⊎ (hi ≤ s) → Q m lo hi []) (one : (m lo hi : ℕ) → lo < hi → s ≤ lo → hi ≤ e → Q m lo hi (at lo hi ∷ [])) (both : (m lo hi : ℕ) → 2 ≤ hi - lo → (lo < s) ⊎ (e < hi) → (xs ys : List Node) → Q (m + 1) lo (middle lo hi) xs → Q (m + 2 * (middle lo hi - lo)) (middle lo hi) hi ys → Q m lo hi (xs ++ ys)) where
    -- however the node is reached from a parent that is not inside, if the depth suffices
    abbrev Held : ℕ → ℕ → ℕ → Type 0
    Held m lo hi = (n : ℕ) (p : Option Node) → parent_inside span p ≡ false → hi - lo ≤ n → Q m lo hi (below n p lo hi)

    held_inside : (m lo hi : ℕ) → lo < hi → s ≤ lo → hi ≤ e → Held m lo hi
    held_inside m lo hi l a b zero p o d = absurd (omega arith)
    held_inside m lo hi l a b (suc n) p o d = subst (Q m lo hi) (sym (whole n lo hi p o a (omega arith) b)) (one m lo hi l a b)

    held_across : (m lo hi : ℕ) → 2 ≤ hi - lo → (lo < s) ⊎ (e < hi) → Held (m + 1) lo (middle lo hi) → Held (m + 2 * (middle lo hi - lo)) (middle lo hi) hi → Held m lo hi
    held_across m lo hi two off left right zero p o d = absurd (omega arith)
    held_across m lo hi two off left right (suc n) p o d =
        let v : Option Node = Some (at lo hi) in
        let w = inside_no s e lo hi off in
        subst (Q m lo hi) (sym (parts n lo hi p off two)) (both m lo hi two off (below n v lo (middle lo hi)) (below n v (middle lo hi) hi) (left n v w (omega arith)) (right n v w (omega arith)))

    pub by_pieces : (t : ℕ) → 0 < t → Q 0 0 t (pieces_of t (s, e))
    by_pieces t some =
        subst (Q 0 0 t) (sym (ap (λ l. map (λ (v : Placed). v.node) (filter (is_piece span) l)) (cond-true (ltb 0 t) (nodes_from t None 0 t) [] (lt-ltb 0 t some))))
        (by_overlap Held s e (λ m lo hi l c n p o d. subst (Q m lo hi) (sym (apart n lo hi p l c)) (none m lo hi l c)) held_inside held_across 0 0 t some t None refl (omega arith))
