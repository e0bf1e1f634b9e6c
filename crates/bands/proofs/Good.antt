-- What is true of the rows that a list of facts makes, and of the places where climbs end.
use Rattle.std.proofs.Common.{◌≡◌, ℕ, ◌*◌, ◌<◌, ◌≤◌, true, eqb, ◌⊎◌, List, ◌∷◌, length, Some, None, ap, subst, sym, ⊎_elim, arith}
use Rattle.std.proofs.lemmas.List.{get_or_past}
use Rattle.std.proofs.lemmas.Bool.{cases_lt}
use Rattle.undoable.specs.declared.facts.Fact.{Fact}
use Rattle.bands.specs.declared.steps.Place.{Place}
use Rattle.bands.specs.declared.steps.Row.{Row}
use Rattle.bands.specs.Rows.{nothing, row_at, place_of, Sound}
use Rattle.bands.specs.Rule.{far, mirrors, ◌⊕◌, Among, Walk}
use Rattle.bands.proofs.Climbing.{Climbs, climbs_size, climbs_top, climbs_none, climbs_climbed, climbs_shallow, few_links}
use Rattle.bands.proofs.Counts.{count_of, count_most}
use Rattle.bands.proofs.Walking.{walk_more}

-- a fact's ends are in one group, at the fact's parity or in a marked group
abbrev pub Closed : List Row → (ℕ → Place) → Fact → Type 0
Closed rs at f = ((at f.first).root ≡ (at (far f)).root) × (((at f.first).odd ⊕ (at (far f)).odd ≡ mirrors f) ⊎ ((row_at rs (at f.first).root).odd ≡ true))

pub record Good (fs : List Fact) (rs : List Row) (at : ℕ → Place) : Type 0 where
  pub long : length rs ≡ 1024
  pub climbs : (x : ℕ) → Climbs rs x (at x).links (at x).root (at x).odd
  pub within : (x : ℕ) → x < 1024 → (at x).root < 1024
  pub positive : (x : ℕ) → x < 1024 → 1 ≤ (row_at rs x).size
  pub inside : (x y : ℕ) → (row_at rs x).parent ≡ Some y → y < 1024
  pub doubling : (x y : ℕ) → (row_at rs x).parent ≡ Some y → 2 * (row_at rs x).size ≤ (row_at rs y).size
  -- a root's size is the number of bands that climb to it
  pub counted : (r : ℕ) → r < 1024 → (row_at rs r).parent ≡ None → (row_at rs r).size ≡ count_of (λ x. eqb (at x).root r)
  -- the parity of the way to the root is that of a walk
  pub walk : (x : ℕ) → Walk fs x (at x).root (at x).odd
  -- a marked root has an odd closed walk
  pub marked : (r : ℕ) → (row_at rs r).odd ≡ true → Walk fs r r true
  pub closed : (f : Fact) → Among f fs → Closed rs at f

module _ {fs : List Fact} {rs : List Row} {at : ℕ → Place} (g : Good fs rs at) where
  beyond : (x : ℕ) → 1024 ≤ x → row_at rs x ≡ nothing
  beyond x l = get_or_past rs x nothing (omega (arith, g.long))

  root_most : (x : ℕ) → x < 1024 → (row_at rs (at x).root).size ≤ 1024
  root_most x l = omega (arith, g.counted (at x).root (g.within x l) (climbs_top (g.climbs x)), count_most (λ y. eqb (at y).root (at x).root))

  most : (x : ℕ) → (row_at rs x).size ≤ 1024
  most x =
      ⊎_elim
      (λ (l : x < 1024). omega (arith, climbs_size g.doubling (g.climbs x), root_most x l))
      (λ (l : 1024 ≤ x). omega (arith, ap (λ (r : Row). r.size) (beyond x l)))
      (cases_lt x 1024)

  pub good_sound : Sound rs
  good_sound = record { long = g.long; positive = g.positive; most = most; inside = g.inside; doubling = g.doubling }

  few : (x : ℕ) → (at x).links ≤ 10
  few x =
      ⊎_elim
      (λ (l : x < 1024). few_links (at x).links (omega (arith, climbs_shallow g.doubling (g.climbs x) (g.positive x l), root_most x l)))
      (λ (l : 1024 ≤ x). omega (arith, climbs_none (g.climbs x) (ap (λ (r : Row). r.parent) (beyond x l))))
      (cases_lt x 1024)

  -- the places are those of the table
  pub settled : Good fs rs (place_of rs)
  settled = subst (Good fs rs) (λ i x. sym (climbs_climbed (g.climbs x) 10 (few x)) i) g

  -- the way of a band to the root of its group, with one fact more
  pub to_root : {f : Fact} (x r : ℕ) → (at x).root ≡ r → Walk (f ∷ fs) x r (at x).odd
  to_root {f} x r e = subst (λ z. Walk (f ∷ fs) x z (at x).odd) e (walk_more (g.walk x))
