-- A fact that joins two groups: the smaller root goes below the larger.
use Rattle.std.proofs.Common.{◌≡◌, ℕ, ◌+◌, ◌*◌, ◌<◌, ◌≤◌, Bool, true, false, cond, eqb, ◌≢◌, ◌⊎◌, List, ◌∷◌, set, Some, None, sym, ap, ◌∙◌, subst, inl, inr, ⊎_elim, arith}
use Rattle.std.proofs.lemmas.List.{get_or-set_same, get_or-set_other, length-set}
use Rattle.std.proofs.lemmas.Bool.{cases_eq, cond_both, eqb-true, eqb-false}
use Rattle.undoable.specs.declared.facts.Fact.{Fact}
use Rattle.bands.specs.declared.steps.BandStep.{BandStep}
use Rattle.bands.specs.declared.steps.Place.{Place}
use Rattle.bands.specs.declared.steps.Row.{Row}
use Rattle.bands.specs.Rows.{row_at, step_from, low_row, high_row}
use Rattle.bands.specs.Rule.{far, mirrors, ◌⊕◌, Among, here, later, Walk}
use Rattle.bands.proofs.Climbing.{Climbs, top, up, place_at}
use Rattle.bands.proofs.Counts.{count_of, count_split}
use Rattle.bands.proofs.Good.{Closed, Good, to_root}
use Rattle.bands.proofs.Walking.{sum_comm, sum_assoc, round_trip, walk_then, walk_back, walk_step, walk_more}

round_far : (a b m : Bool) → (b ⊕ m) ⊕ a ≡ a ⊕ b ⊕ m
round_far a b m = grind arith

there_and_back : (t : Bool) → (t ⊕ true) ⊕ t ≡ true
there_and_back t = grind arith

module _ {fs : List Fact} {rs : List Row} {at : ℕ → Place} (g : Good fs rs at) (f : Fact) (low high : ℕ) (t : Bool) (ll : low < 1024) (lh : high < 1024) (ltop : (row_at rs low).parent ≡ None) (htop : (row_at rs high).parent ≡ None) (ne : low ≢ high) (small : (row_at rs low).size ≤ (row_at rs high).size) where
  abbrev s : BandStep
  s = step_from rs f t low high

  abbrev joined : List Row
  joined = set (set rs low (low_row s)) high (high_row s)

  row : (x : ℕ) → row_at joined x ≡ cond (eqb x high) (high_row s) (cond (eqb x low) (low_row s) (row_at rs x))
  row x =
      let long = g.long in
      grind (arith, cases_eq x low, cases_eq x high, get_or-set_same {A = Row}, get_or-set_other {A = Row}, length-set {A = Row})

  -- what is below a parent is neither of the roots
  below : (x y : ℕ) → (row_at rs x).parent ≡ Some y → ((row_at joined x).parent ≡ Some y) × ((row_at joined x).turned ≡ (row_at rs x).turned)
  below x y e = grind (arith, row x)

  root_stays : (x : ℕ) → x ≢ low → (row_at rs x).parent ≡ None → (row_at joined x).parent ≡ None
  root_stays x d e = grind (arith, row x)

  link : ((row_at joined low).parent ≡ Some high) × ((row_at joined low).turned ≡ t)
  link = grind (arith, row low)

  -- climbs that ended at the lower root go one link further, and the others stay
  climbs_other : {x n r : ℕ} {p : Bool} → Climbs rs x n r p → r ≢ low → Climbs joined x n r p
  climbs_other (top {x} e) d = top (root_stays x d e)
  climbs_other (up {x} {y} e h c) d = let b = below x y e in up b.0 (b.1 ∙ h) (climbs_other c d)

  climbs_low : {x n r : ℕ} {p : Bool} → Climbs rs x n r p → r ≡ low → Climbs joined x (n + 1) high (p ⊕ t)
  climbs_low (top {x} e) d =
      subst (λ z. Climbs joined z (0 + 1) high (false ⊕ t)) (sym d)
      (subst (Climbs joined low (0 + 1) high) (sum_comm t false) (up link.0 link.1 (top (root_stays high (λ z. ne (sym z)) htop))))
  climbs_low (up {x} {y} {n} {r} {t = u} {p} e h c) d =
      let b = below x y e in
      subst (Climbs joined x (n + 1 + 1) high) (sym (sum_assoc u p t)) (up b.0 (b.1 ∙ h) (climbs_low c d))

  -- where climbs end now
  abbrev moved : ℕ → Place
  moved x = cond (eqb (at x).root low) (place_at ((at x).links + 1) high ((at x).odd ⊕ t)) (at x)

  by_group : (x : ℕ) (P : Place → Type 0) → ((at x).root ≡ low → P (place_at ((at x).links + 1) high ((at x).odd ⊕ t))) → ((at x).root ≢ low → P (at x)) → P (moved x)
  by_group x P u v = cond_both (eqb (at x).root low) _ _ P (λ e. u (eqb-true _ _ e)) (λ e. v (eqb-false _ _ e))

  -- the bands of the two groups are those that climb to the higher root, and other groups stay
  joins : (x : ℕ) → ◌≡◌ {A = ℕ} (cond (eqb (moved x).root high) 1 0) (cond (eqb (at x).root high) 1 0 + cond (eqb (at x).root low) 1 0)
  joins x = grind arith

  apart : (r : ℕ) → r ≢ low → r ≢ high → (x : ℕ) → eqb (at x).root r ≡ eqb (moved x).root r
  apart r a b x = grind arith

  grows : (y : ℕ) → (row_at rs y).size ≤ (row_at joined y).size
  grows y = grind (arith, row y)

  doubling : (x y : ℕ) → (row_at joined x).parent ≡ Some y → 2 * (row_at joined x).size ≤ (row_at joined y).size
  doubling x y e = grind (arith, row x, row y, g.doubling x y)

  inside : (x y : ℕ) → (row_at joined x).parent ≡ Some y → y < 1024
  inside x y e = grind (arith, row x, g.inside x y)

  both_counted : (row_at joined high).size ≡ count_of (λ x. eqb (moved x).root high)
  both_counted =
      let sum : (row_at joined high).size ≡ (row_at rs high).size + (row_at rs low).size = grind (arith, row high) in
      omega (arith, sum, g.counted low ll ltop, g.counted high lh htop, count_split (λ x. eqb (moved x).root high) (λ x. eqb (at x).root high) (λ x. eqb (at x).root low) joins)

  -- a root is the higher one, or neither
  roots : (r : ℕ) → (row_at joined r).parent ≡ None → (r ≡ high) ⊎ ((r ≢ low) × (r ≢ high) × (row_at joined r ≡ row_at rs r))
  roots r e = grind (arith, row r)

  counted : (r : ℕ) → r < 1024 → (row_at joined r).parent ≡ None → (row_at joined r).size ≡ count_of (λ x. eqb (moved x).root r)
  counted r l e =
      ⊎_elim
      (λ (h : r ≡ high). subst (λ z. (row_at joined z).size ≡ count_of (λ x. eqb (moved x).root z)) (sym h) both_counted)
      (λ (h : (r ≢ low) × (r ≢ high) × (row_at joined r ≡ row_at rs r)).
      ap (λ (z : Row). z.size) h.2 ∙ g.counted r l (sym (ap (λ (z : Row). z.parent) h.2) ∙ e) ∙ ap count_of (λ i x. apart r h.0 h.1 x i))
      (roots r e)

  marks : (x : ℕ) → (row_at joined x).odd ≡ true → ((row_at rs x).odd ≡ true) ⊎ ((x ≡ high) × ((row_at rs low).odd ≡ true))
  marks x e = grind (arith, row x)

  -- a mark goes up with its group
  mark_moved : (x : ℕ) → (row_at rs (at x).root).odd ≡ true → (row_at joined (moved x).root).odd ≡ true
  mark_moved x e = grind (arith, row high, row (at x).root)

  -- two bands of one group stay in one, at the same parity
  stays : (x y : ℕ) → (at x).root ≡ (at y).root → ((moved x).root ≡ (moved y).root) × ((moved x).odd ⊕ (moved y).odd ≡ (at x).odd ⊕ (at y).odd)
  stays x y e = grind arith

  -- the fact's ends are in the two groups, and the lower root is turned so that they come to the fact's parity
  module _ (turn : t ≡ (at f.first).odd ⊕ (at (far f)).odd ⊕ mirrors f) (ends : (((at f.first).root ≡ low) × ((at (far f)).root ≡ high)) ⊎ (((at f.first).root ≡ high) × ((at (far f)).root ≡ low))) where
    bridge : Walk (f ∷ fs) low high t
    bridge =
        subst (Walk (f ∷ fs) low high) (sym turn)
        (⊎_elim
        (λ (e : ((at f.first).root ≡ low) × ((at (far f)).root ≡ high)).
        subst (Walk (f ∷ fs) low high) (round_trip (at f.first).odd (at (far f)).odd (mirrors f))
        (walk_then (walk_then (walk_back (to_root g f.first low e.0)) (walk_step here)) (to_root g (far f) high e.1)))
        (λ (e : ((at f.first).root ≡ high) × ((at (far f)).root ≡ low)).
        subst (Walk (f ∷ fs) low high) (round_far (at f.first).odd (at (far f)).odd (mirrors f))
        (walk_then (walk_then (walk_back (to_root g (far f) low e.1)) (walk_back (walk_step here))) (to_root g f.first high e.0)))
        ends)

    marked : (r : ℕ) → (row_at joined r).odd ≡ true → Walk (f ∷ fs) r r true
    marked r e =
        ⊎_elim
        (λ (h : (row_at rs r).odd ≡ true). walk_more (g.marked r h))
        (λ (h : (r ≡ high) × ((row_at rs low).odd ≡ true)).
        subst (λ z. Walk (f ∷ fs) z z true) (sym h.0)
        (subst (Walk (f ∷ fs) high high) (there_and_back t) (walk_then (walk_then (walk_back bridge) (walk_more (g.marked low h.1))) bridge)))
        (marks r e)

    -- the ends of the fact come together
    meets : ((moved f.first).root ≡ (moved (far f)).root) × ((moved f.first).odd ⊕ (moved (far f)).odd ≡ mirrors f)
    meets = grind arith

    closed_later : (h : Fact) → Closed rs at h → Closed joined moved h
    closed_later h (e, inl d) = let u = stays h.first (far h) e in (u.0, inl (u.1 ∙ d))
    closed_later h (e, inr d) = ((stays h.first (far h) e).0, inr (mark_moved h.first d))

    pub good_joined : Good (f ∷ fs) joined moved
    good_joined = record {
      long = length-set (set rs low (low_row s)) high (high_row s) ∙ length-set rs low (low_row s) ∙ g.long;
      climbs = λ x. by_group x (λ p. Climbs joined x p.links p.root p.odd) (climbs_low (g.climbs x)) (climbs_other (g.climbs x));
      within = λ x l. by_group x (λ p. p.root < 1024) (λ e. lh) (λ e. g.within x l);
      positive = λ x l. omega (arith, g.positive x l, grows x);
      inside = inside;
      doubling = doubling;
      counted = counted;
      walk = λ x. by_group x (λ p. Walk (f ∷ fs) x p.root p.odd) (λ e. walk_then (to_root g x low e) bridge) (λ e. walk_more (g.walk x));
      marked = marked;
      closed = closed_all;
    }
      where
        closed_all : (h : Fact) → Among h (f ∷ fs) → Closed joined moved h
        closed_all h here = (meets.0, inl meets.1)
        closed_all h (later m) = closed_later h (g.closed h m)
