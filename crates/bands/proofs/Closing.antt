-- A fact within one group: its root is marked if the fact closes an odd walk.
use Rattle.std.proofs.Common.{◌≡◌, ℕ, ◌<◌, Bool, true, false, cond, eqb, ◌⊎◌, List, ◌∷◌, set, sym, ap, ◌∙◌, subst, inl, inr, ⊎_elim, arith}
use Rattle.std.proofs.lemmas.List.{get_or-set_same, get_or-set_other, length-set}
use Rattle.std.proofs.lemmas.Bool.{cases_Bool, cases_eq}
use Rattle.undoable.specs.declared.facts.Fact.{Fact}
use Rattle.bands.specs.declared.steps.BandStep.{BandStep}
use Rattle.bands.specs.declared.steps.Place.{Place}
use Rattle.bands.specs.declared.steps.Row.{Row}
use Rattle.bands.specs.Rows.{row_at, step_from, closed_row}
use Rattle.bands.specs.Rule.{far, mirrors, ◌⊕◌, Among, here, later, Walk}
use Rattle.bands.proofs.Climbing.{Climbs, top, up}
use Rattle.bands.proofs.Good.{Closed, Good, to_root}
use Rattle.bands.proofs.Walking.{round_trip, walk_then, walk_back, walk_step, walk_more}

even_closed : (a b m : Bool) → a ⊕ b ⊕ m ≡ false → a ⊕ b ≡ m
even_closed a b m e = grind arith

module _ {fs : List Fact} {rs : List Row} {at : ℕ → Place} (g : Good fs rs at) (f : Fact) (r : ℕ) (t : Bool) (lr : r < 1024) where
  abbrev s : BandStep
  s = step_from rs f t r r

  abbrev closed : List Row
  closed = set rs r (closed_row s)

  row : (x : ℕ) → row_at closed x ≡ cond (eqb x r) (closed_row s) (row_at rs x)
  row x =
      let long = g.long in
      grind (arith, cases_eq x r, get_or-set_same {A = Row}, get_or-set_other {A = Row})

  parents : (x : ℕ) → (row_at closed x).parent ≡ (row_at rs x).parent
  parents x = grind (arith, row x)

  turns : (x : ℕ) → (row_at closed x).turned ≡ (row_at rs x).turned
  turns x = grind (arith, row x)

  sizes : (x : ℕ) → (row_at closed x).size ≡ (row_at rs x).size
  sizes x = grind (arith, row x)

  marks : (x : ℕ) → (row_at closed x).odd ≡ true → ((row_at rs x).odd ≡ true) ⊎ ((x ≡ r) × (t ≡ true))
  marks x e = grind (arith, row x)

  mark_stays : (x : ℕ) → (row_at rs x).odd ≡ true → (row_at closed x).odd ≡ true
  mark_stays x e = grind (arith, row x)

  mark_set : t ≡ true → (row_at closed r).odd ≡ true
  mark_set e = grind (arith, row r)

  climbs_on : {x n y : ℕ} {p : Bool} → Climbs rs x n y p → Climbs closed x n y p
  climbs_on (top {x} e) = top (parents x ∙ e)
  climbs_on (up {x} {y} e h c) = up (parents x ∙ e) (turns x ∙ h) (climbs_on c)

  module _ (turn : t ≡ (at f.first).odd ⊕ (at (far f)).odd ⊕ mirrors f) (one : (at f.first).root ≡ r) (two : (at (far f)).root ≡ r) where
    round : Walk (f ∷ fs) r r t
    round =
        subst (Walk (f ∷ fs) r r) (round_trip (at f.first).odd (at (far f)).odd (mirrors f) ∙ sym turn)
        (walk_then (walk_then (walk_back (to_root g f.first r one)) (walk_step here)) (to_root g (far f) r two))

    closed_here : Closed closed at f
    closed_here = (
      one ∙ sym two,
      ⊎_elim
          (λ (e : t ≡ true). inr (ap (λ (z : ℕ). (row_at closed z).odd) one ∙ mark_set e))
          (λ (e : t ≡ false). inl (even_closed (at f.first).odd (at (far f)).odd (mirrors f) (sym turn ∙ e)))
          (cases_Bool t),
    )

    closed_later : (h : Fact) → Closed rs at h → Closed closed at h
    closed_later h (one, inl e) = (one, inl e)
    closed_later h (one, inr e) = (one, inr (mark_stays (at h.first).root e))

    pub good_closed : Good (f ∷ fs) closed at
    good_closed = record {
      long = length-set rs r (closed_row s) ∙ g.long;
      climbs = λ x. climbs_on (g.climbs x);
      within = g.within;
      positive = λ x l. omega (arith, g.positive x l, sizes x);
      inside = λ x y e. g.inside x y (sym (parents x) ∙ e);
      doubling = λ x y e. omega (arith, g.doubling x y (sym (parents x) ∙ e), sizes x, sizes y);
      counted = λ x l e. sizes x ∙ g.counted x l (sym (parents x) ∙ e);
      walk = λ x. walk_more (g.walk x);
      marked = λ x e.
          ⊎_elim
          (λ (h : (row_at rs x).odd ≡ true). walk_more (g.marked x h))
          (λ (h : (x ≡ r) × (t ≡ true)). subst (λ z. Walk (f ∷ fs) z z true) (sym h.0) (subst (Walk (f ∷ fs) r r) h.1 round))
          (marks x e);
      closed = closed_all;
    }
      where
        closed_all : (h : Fact) → Among h (f ∷ fs) → Closed closed at h
        closed_all h here = closed_here
        closed_all h (later m) = closed_later h (g.closed h m)
