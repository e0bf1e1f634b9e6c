-- Two sides have one label exactly if a walk joins them, so the rule tells which walks there are.
use Rattle.std.proofs.Common.{◌≡◌, ℕ, Bool, true, false, cond, not, ◌⊎◌, List, [], ◌∷◌, sym, refl, ap, ◌∙◌, subst, inl, inr, arith}
use Rattle.undoable.specs.declared.facts.Fact.{Fact}
use Rattle.bands.specs.declared.relations.Relation.{Relation}
use Rattle.bands.specs.Rule.{far, mirrors, ◌⊕◌, Among, here, later, Walk, stay, along, against, Side, side_of, same_side, merged, label, relation_by, has_even, has_odd, Tells, ByWalks}
use Rattle.bands.proofs.Walking.{sum_assoc, sum_comm, sum_none, none_sum, sum_self, sum_twice, walk_then, walk_back, walk_step, walk_on}

same_is : (s t : Side) → same_side s t ≡ true → s ≡ t
same_is s t e = grind arith

is_same : (s t : Side) → s ≡ t → same_side s t ≡ true
is_same s t e = grind arith

-- a walk from side to side
abbrev Joined : List Fact → Side → Side → Type 0
Joined fs s t = Walk fs s.band t.band (s.other ⊕ t.other)

between : (p q r : Bool) → (p ⊕ q) ⊕ (q ⊕ r) ≡ p ⊕ r
between p q r = grind arith

module _ {fs : List Fact} where
  joined_then : (s t u : Side) → Joined fs s t → Joined fs t u → Joined fs s u
  joined_then s t u v w = subst (Walk fs s.band u.band) (between s.other t.other u.other) (walk_then v w)

  joined_back : (s t : Side) → Joined fs s t → Joined fs t s
  joined_back s t v = subst (Walk fs t.band s.band) (sum_comm s.other t.other) (walk_back v)

-- merged labels
module _ (l : Side → Side) (s t : Side) where
  -- a label is turned, or it stays
  turned : (x : Side) → ((l x ≡ l t) × (merged l s t x ≡ l s)) ⊎ (merged l s t x ≡ l x)
  turned x = grind (arith, same_is)

  merged_keeps : (x y : Side) → l x ≡ l y → merged l s t x ≡ merged l s t y
  merged_keeps x y e = ap (λ (z : Side). cond (same_side z (l t)) (l s) z) e

  merged_joins : merged l s t s ≡ merged l s t t
  merged_joins = grind (arith, same_is, is_same (l t) (l t) refl)

  module _ {fs : List Fact} (link : Joined fs s t) (sound : (x y : Side) → l x ≡ l y → Joined fs x y) where
    from_t : (x y : Side) → l x ≡ l t → l s ≡ l y → Joined fs x y
    from_t x y e h = joined_then x t y (sound x t e) (joined_then t s y (joined_back s t link) (sound s y h))

    merged_sound : (x y : Side) → merged l s t x ≡ merged l s t y → Joined fs x y
    merged_sound x y h = by_turns (turned x) (turned y)
      where
        by_turns : ((l x ≡ l t) × (merged l s t x ≡ l s)) ⊎ (merged l s t x ≡ l x) → ((l y ≡ l t) × (merged l s t y ≡ l s)) ⊎ (merged l s t y ≡ l y) → Joined fs x y
        by_turns (inl a) (inl b) = sound x y (a.0 ∙ sym b.0)
        by_turns (inl a) (inr b) = from_t x y a.0 (sym a.1 ∙ h ∙ b)
        by_turns (inr a) (inl b) = joined_back y x (from_t y x b.0 (sym b.1 ∙ sym h ∙ a))
        by_turns (inr a) (inr b) = sound x y (sym a ∙ h ∙ b)

-- the sides that a fact joins
abbrev one : Fact → Bool → Side
one f p = side_of f.first p

abbrev two : Fact → Bool → Side
two f p = side_of (far f) p

turned_over : (p : Bool) → not p ≡ true ⊕ p
turned_over p = grind arith

over_not : (p : Bool) → true ⊕ not p ≡ p
over_not p = grind arith

-- equal labels: a walk
label_sound : (fs : List Fact) (x y : Side) → label fs x ≡ label fs y → Joined fs x y
label_sound [] x y e = subst (λ (z : Side). Joined [] x z) e (subst (Walk [] x.band x.band) (sym (sum_self x.other)) stay)
label_sound (f ∷ fs) x y e =
    let step : Walk (f ∷ fs) f.first (far f) (mirrors f) = walk_step here in
    let link : Joined (f ∷ fs) (one f false) (two f (mirrors f)) = subst (Walk (f ∷ fs) f.first (far f)) (sym (none_sum (mirrors f))) step in
    let flip : Joined (f ∷ fs) (one f true) (two f (not (mirrors f))) = subst (Walk (f ∷ fs) f.first (far f)) (sym (over_not (mirrors f))) step in
    merged_sound (merged (label fs) (one f false) (two f (mirrors f))) (one f true) (two f (not (mirrors f))) flip
    (merged_sound (label fs) (one f false) (two f (mirrors f)) link (λ u v h. walk_on (λ g m. later m) (label_sound fs u v h)))
    x y e

-- a fact of the list gives the sides that it joins one label
label_joins : {f : Fact} {fs : List Fact} → Among f fs → (p : Bool) → label fs (one f p) ≡ label fs (two f (p ⊕ mirrors f))
label_joins {f} (here {fs}) false =
    let l : Side → Side = merged (label fs) (one f false) (two f (mirrors f)) in
    merged_keeps l (one f true) (two f (not (mirrors f))) (one f false) (two f (mirrors f)) (merged_joins (label fs) (one f false) (two f (mirrors f)))
    ∙ ap (λ (q : Bool). label (f ∷ fs) (two f q)) (sym (none_sum (mirrors f)))
label_joins {f} (here {fs}) true =
    let l : Side → Side = merged (label fs) (one f false) (two f (mirrors f)) in
    merged_joins l (one f true) (two f (not (mirrors f)))
    ∙ ap (λ (q : Bool). label (f ∷ fs) (two f q)) (turned_over (mirrors f))
label_joins {f} (later {g} {fs} m) p =
    let l : Side → Side = merged (label fs) (one g false) (two g (mirrors g)) in
    merged_keeps l (one g true) (two g (not (mirrors g))) (one f p) (two f (p ⊕ mirrors f))
    (merged_keeps (label fs) (one g false) (two g (mirrors g)) (one f p) (two f (p ⊕ mirrors f)) (label_joins m p))

-- a walk: equal labels
walk_labels : {fs : List Fact} {a b : ℕ} {p : Bool} → Walk fs a b p → (q : Bool) → label fs (side_of a q) ≡ label fs (side_of b (q ⊕ p))
walk_labels {fs} (stay {x}) q = ap (λ (r : Bool). label fs (side_of x r)) (sym (sum_none q))
walk_labels {fs} (along {f} {y} {p} m w) q =
    label_joins m q ∙ walk_labels w (q ⊕ mirrors f) ∙ ap (λ (r : Bool). label fs (side_of y r)) (sum_assoc q (mirrors f) p)
walk_labels {fs} (against {f} {y} {p} m w) q =
    ap (λ (r : Bool). label fs (two f r)) (sym (sum_twice q (mirrors f)))
    ∙ sym (label_joins m (q ⊕ mirrors f))
    ∙ walk_labels w (q ⊕ mirrors f)
    ∙ ap (λ (r : Bool). label fs (side_of y r)) (sum_assoc q (mirrors f) p)

even_by : (e o : Bool) → has_even (relation_by e o) ≡ e
even_by e o = grind arith

odd_by : (e o : Bool) → has_odd (relation_by e o) ≡ o
odd_by e o = grind arith

pub by_walks : ByWalks
by_walks fs a b =
    let l : Side → Side = label fs in
    let e : Bool = same_side (l (side_of a false)) (l (side_of b false)) in
    let o : Bool = same_side (l (side_of a false)) (l (side_of b true)) in
    record {
      even_walk = λ h. label_sound fs (side_of a false) (side_of b false) (same_is _ _ (sym (even_by e o) ∙ h));
      even_only = λ w. even_by e o ∙ is_same _ _ (walk_labels w false);
      odd_walk = λ h. label_sound fs (side_of a false) (side_of b true) (same_is _ _ (sym (odd_by e o) ∙ h));
      odd_only = λ w. odd_by e o ∙ is_same _ _ (walk_labels w false);
    }

-- only one relation tells the walks between two bands
pub tells_same : {fs : List Fact} {a b : ℕ} (r s : Relation) → Tells fs a b r → Tells fs a b s → r ≡ s
tells_same r s t u =
    one r s (λ h. u.even_only (t.even_walk h)) (λ h. t.even_only (u.even_walk h)) (λ h. u.odd_only (t.odd_walk h)) (λ h. t.odd_only (u.odd_walk h))
  where
    one : (r s : Relation) → (has_even r ≡ true → has_even s ≡ true) → (has_even s ≡ true → has_even r ≡ true) → (has_odd r ≡ true → has_odd s ≡ true) → (has_odd s ≡ true → has_odd r ≡ true) → r ≡ s
    one r s a b c d = grind arith
