-- The rows tell which walks there are, so what they say of two bands is the rule's answer.
use Rattle.std.proofs.Common.{◌≡◌, ℕ, ◌^◌, ◌<◌, ◌≤◌, Bool, true, false, eqb, ◌⊎◌, List, sym, refl, ap, ◌∙◌, subst, inl, inr, arith}
use Rattle.undoable.specs.declared.facts.Fact.{Fact}
use Rattle.bands.specs.declared.steps.Row.{Row}
use Rattle.bands.specs.Rows.{row_at, place_of, rows_of, all_admitted, related, FewLinks}
use Rattle.bands.specs.Rule.{far, mirrors, ◌⊕◌, Walk, stay, along, against, relation, has_even, has_odd, Tells, together, group_size}
use Rattle.bands.proofs.Climbing.{climbs_top, climbs_shallow}
use Rattle.bands.proofs.Counts.{count_of}
use Rattle.bands.proofs.Good.{Good}
use Rattle.bands.proofs.Labels.{by_walks, tells_same}
use Rattle.bands.proofs.Tables.{good_rows}
use Rattle.bands.proofs.Walking.{sum_self, walk_then, walk_back}

either_way : (p q r : Bool) → ((p ⊕ true) ⊕ q ≡ r) ⊎ (p ⊕ q ≡ r)
either_way p q r = grind arith

module _ {fs : List Fact} {rs : List Row} (g : Good fs rs (place_of rs)) where
  -- a walk stays in its group, at its parity or in a marked group
  abbrev Kept : ℕ → ℕ → Bool → Type 0
  Kept x y p = ((place_of rs x).root ≡ (place_of rs y).root) × (((place_of rs x).odd ⊕ (place_of rs y).odd ≡ p) ⊎ ((row_at rs (place_of rs x).root).odd ≡ true))

  kept_then : (x y z : ℕ) (p q : Bool) → Kept x y p → Kept y z q → Kept x z (p ⊕ q)
  kept_then x y z p q k m = grind arith

  kept_back : (x y : ℕ) (p : Bool) → Kept x y p → Kept y x p
  kept_back x y p k = grind arith

  walk_kept : {x y : ℕ} {p : Bool} → Walk fs x y p → Kept x y p
  walk_kept (stay {x}) = (refl, inl (sum_self (place_of rs x).odd))
  walk_kept (along {f} {y} {p} m w) = kept_then f.first (far f) y (mirrors f) p (g.closed f m) (walk_kept w)
  walk_kept (against {f} {y} {p} m w) = kept_then (far f) f.first y (mirrors f) p (kept_back f.first (far f) (mirrors f) (g.closed f m)) (walk_kept w)

  -- and in one group there is a walk of each such parity
  kept_walk : (x y : ℕ) (p : Bool) → Kept x y p → Walk fs x y p
  kept_walk x y p k = by_way k.1
    where
      down : Walk fs (place_of rs x).root y (place_of rs y).odd
      down = walk_back (subst (λ r. Walk fs y r (place_of rs y).odd) (sym k.0) (g.walk y))

      through : Walk fs x y ((place_of rs x).odd ⊕ (place_of rs y).odd)
      through = walk_then (g.walk x) down

      by_way : ((place_of rs x).odd ⊕ (place_of rs y).odd ≡ p) ⊎ ((row_at rs (place_of rs x).root).odd ≡ true) → Walk fs x y p
      by_way (inl e) = subst (Walk fs x y) e through
      by_way (inr e) = marked (either_way (place_of rs x).odd (place_of rs y).odd p)
        where
          marked : (((place_of rs x).odd ⊕ true) ⊕ (place_of rs y).odd ≡ p) ⊎ ((place_of rs x).odd ⊕ (place_of rs y).odd ≡ p) → Walk fs x y p
          marked (inl h) = subst (Walk fs x y) h (walk_then (walk_then (g.walk x) (g.marked (place_of rs x).root e)) down)
          marked (inr h) = subst (Walk fs x y) h through

  even_says : (a b : ℕ) → has_even (related rs a b) ≡ true → Kept a b false
  even_says a b e = grind arith

  says_even : (a b : ℕ) → Kept a b false → has_even (related rs a b) ≡ true
  says_even a b k = grind arith

  odd_says : (a b : ℕ) → has_odd (related rs a b) ≡ true → Kept a b true
  odd_says a b e = grind arith

  says_odd : (a b : ℕ) → Kept a b true → has_odd (related rs a b) ≡ true
  says_odd a b k = grind arith

  related_tells : (a b : ℕ) → Tells fs a b (related rs a b)
  related_tells a b = record {
    even_walk = λ e. kept_walk a b false (even_says a b e);
    even_only = λ w. says_even a b (walk_kept w);
    odd_walk = λ e. kept_walk a b true (odd_says a b e);
    odd_only = λ w. says_odd a b (walk_kept w);
  }

pub related_rule : (fs : List Fact) → all_admitted fs ≡ true → (a b : ℕ) → related (rows_of fs) a b ≡ relation fs a b
related_rule fs e a b = tells_same _ _ (related_tells (good_rows fs e) a b) (by_walks fs a b)

-- a root's size is the size of the group
together_related : (rs : List Row) (a b : ℕ) → together (related rs a b) ≡ eqb (place_of rs b).root (place_of rs a).root
together_related rs a b = grind arith

pub group_rule : (fs : List Fact) → all_admitted fs ≡ true → (a : ℕ) → a < 1024 → (row_at (rows_of fs) (place_of (rows_of fs) a).root).size ≡ group_size fs a
unfolding group_size count_of
group_rule fs e a l =
    let g = good_rows fs e in
    let rs : List Row = rows_of fs in
    let same : (x : ℕ) → eqb (place_of (rows_of fs) x).root (place_of (rows_of fs) a).root ≡ together (relation fs a x) = λ x. sym (together_related rs a x) ∙ ap together (related_rule fs e a x) in
    g.counted (place_of rs a).root (g.within a l) (climbs_top (g.climbs a)) ∙ ap count_of (λ i x. same x i)

pub few_links_rule : FewLinks
few_links_rule fs e a l =
    let g = good_rows fs e in
    let links = climbs_shallow g.doubling (g.climbs a) (g.positive a l) in
    (climbs_top (g.climbs a), subst (λ n. 2 ^ (place_of (rows_of fs) a).links ≤ n) (group_rule fs e a l) links)
