-- The rows of admitted facts: they tell which walks there are, and they are taken back step by step.
use Rattle.std.proofs.Common.{◌≡◌, ℕ, ◌<◌, ◌≤◌, Bool, true, false, eqb, ltb, ◌⊎◌, List, [], ◌∷◌, length, replicate, None, Some, sym, refl, ap, ◌∙◌, subst, inl, inr, arith}
use Rattle.std.proofs.lemmas.List.{get_or-replicate, length-replicate, get_or_past, set_comm, set-set, set-get_or}
use Rattle.std.proofs.lemmas.Bool.{cases_lt, cond_both, eqb-true, eqb-false, and_parts, ltb-true, ltb-false, false≢true}
use Rattle.undoable.specs.declared.facts.Fact.{Fact}
use Rattle.bands.specs.declared.steps.BandStep.{BandStep}
use Rattle.bands.specs.declared.steps.Row.{Row}
use Rattle.bands.specs.Rows.{nothing, fresh, row_at, place_of, step_from, step_of, after, undone, rows_of, all_admitted, TakenBack}
use Rattle.bands.specs.Rule.{far, mirrors, admits_band, ◌⊕◌, stay}
use Rattle.bands.proofs.Climbing.{top, place_at, climbs_top, none_some}
use Rattle.bands.proofs.Counts.{count_one}
use Rattle.bands.proofs.Good.{Good, settled}
use Rattle.bands.proofs.Joining.{good_joined}
use Rattle.bands.proofs.Closing.{good_closed}

-- an admitted fact names two bands
pub fact_bands : (f : Fact) → admits_band f ≡ true → (f.first < 1024) × (far f < 1024)
fact_bands f e = grind arith

-- without facts each band is alone
unfoldable alone : List Row
alone = replicate 1024 fresh

alone_long : length alone ≡ 1024
unfolding alone
alone_long = length-replicate 1024 fresh

alone_within : (x : ℕ) → x < 1024 → row_at alone x ≡ fresh
unfolding alone
alone_within x l = get_or-replicate 1024 x fresh nothing l

alone_beyond : (x : ℕ) → 1024 ≤ x → row_at alone x ≡ nothing
alone_beyond x l = get_or_past alone x nothing (omega (arith, alone_long))

alone_parent : (x : ℕ) → (row_at alone x).parent ≡ None
alone_parent x = grind (arith, cases_lt x 1024, alone_within x, alone_beyond x)

alone_odd : (x : ℕ) → (row_at alone x).odd ≡ false
alone_odd x = grind (arith, cases_lt x 1024, alone_within x, alone_beyond x)

no_parent : (x y : ℕ) → (row_at alone x).parent ≡ Some y → ⊥
no_parent x y e = none_some (row_at alone x).parent y (alone_parent x) e

good_alone : Good [] alone (λ x. place_at 0 x false)
good_alone = record {
  long = alone_long;
  climbs = λ x. top (alone_parent x);
  within = λ x l. l;
  positive = λ x l. omega (arith, ap (λ (r : Row). r.size) (alone_within x l));
  inside = λ x y e. absurd (no_parent x y e);
  doubling = λ x y e. absurd (no_parent x y e);
  counted = λ r l e. ap (λ (r : Row). r.size) (alone_within r l) ∙ sym (count_one r l);
  walk = λ x. stay;
  marked = λ r e. absurd (false≢true (sym (alone_odd r) ∙ e));
  closed = λ f m. elim m [ ];
}

-- one fact more
abbrev Made : List Fact → List Row → Type 0
Made fs rs = Good fs rs (place_of rs)

module _ {fs : List Fact} {rs : List Row} (g : Made fs rs) (f : Fact) (lf : f.first < 1024) (lo : far f < 1024) where
  abbrev a : ℕ
  a = (place_of rs f.first).root

  abbrev b : ℕ
  b = (place_of rs (far f)).root

  abbrev t : Bool
  t = (place_of rs f.first).odd ⊕ (place_of rs (far f)).odd ⊕ mirrors f

  root : (z : ℕ) → (a ≡ z) ⊎ (b ≡ z) → (z < 1024) × ((row_at rs z).parent ≡ None)
  root z (inl e) = subst (λ z. (z < 1024) × ((row_at rs z).parent ≡ None)) e (g.within f.first lf, climbs_top (g.climbs f.first))
  root z (inr e) = subst (λ z. (z < 1024) × ((row_at rs z).parent ≡ None)) e (g.within (far f) lo, climbs_top (g.climbs (far f)))

  good_step : (low high : ℕ) → ((a ≡ low) × (b ≡ high)) ⊎ ((a ≡ high) × (b ≡ low)) → (row_at rs low).size ≤ (row_at rs high).size → Made (f ∷ fs) (after (step_from rs f t low high) rs)
  good_step low high ends small =
      let l = root low (grind arith) in
      let h = root high (grind arith) in
      cond_both (eqb low high) _ _ (λ (rs : List Row). Made (f ∷ fs) rs)
      (λ e. let is = eqb-true low high e in settled (good_closed g f high t h.0 refl (grind arith) (grind arith)))
      (λ e. settled (good_joined g f low high t l.0 h.0 l.1 h.1 (eqb-false low high e) small refl ends))

  good_after : Made (f ∷ fs) (after (step_of rs f) rs)
  good_after =
      cond_both (ltb (row_at rs a).size (row_at rs b).size) _ _ (λ (s : BandStep). Made (f ∷ fs) (after s rs))
      (λ e. let l = ltb-true _ _ e in good_step a b (inl (refl, refl)) (omega arith))
      (λ e. good_step b a (inr (refl, refl)) (ltb-false _ _ e))

rows_alone : alone ≡ rows_of []
unfolding rows_of alone
rows_alone = refl

pub good_rows : (fs : List Fact) → all_admitted fs ≡ true → Good fs (rows_of fs) (place_of (rows_of fs))
unfolding rows_of
good_rows [] e = subst (Made []) rows_alone (settled good_alone)
good_rows (f ∷ fs) e =
    let p = and_parts _ _ e in
    let l = fact_bands f p.0 in
    good_after (good_rows fs p.1) f l.0 l.1

step_back : (rs : List Row) (f : Fact) → undone (step_of rs f) (after (step_of rs f) rs) ≡ rs
step_back rs f = grind (arith, set_comm {A = Row}, set-set {A = Row}, set-get_or {A = Row})

pub taken_back : TakenBack
unfolding rows_of
taken_back fs f = step_back (rows_of fs) f
