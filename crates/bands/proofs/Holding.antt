-- What a structure holds: its table has the rows of its facts, and its steps are theirs. After a push, and after a pop.
use Rattle.std.proofs.Common.{◌≡◌, ℕ, ◌+◌, ◌<◌, true, List, [], ◌∷◌, get_or, drop, replicate, Some, Ok, sym, refl, ap, ◌∙◌, subst, arith}
use Rattle.std.proofs.lemmas.Bool.{cond-true, and_parts, and_from, lt-ltb}
use Rattle.undoable.specs.declared.facts.Fact.{Fact}
use Rattle.undoable.specs.Stacks.{held, put_result, put_after, take_result, take_after}
use Rattle.bands.specs.declared.relations.Depth.{Depth}
use Rattle.bands.specs.declared.steps.BandStep.{BandStep}
use Rattle.bands.specs.declared.steps.Row.{Row}
use Rattle.bands.specs.declared.structure.Bands.{Bands}
use Rattle.bands.specs.Rows.{fresh, row_at, place_of, Sound, step_of, after, undone, rows_of, steps_of, fact_of, facts_of, all_admitted, related, depth_of}
use Rattle.bands.specs.Rule.{far, admits_band, relation}
use Rattle.bands.proofs.Good.{Good, good_sound}
use Rattle.bands.proofs.Tables.{fact_bands, good_rows, taken_back}
use Rattle.bands.proofs.Telling.{related_rule, group_rule}

-- a list with room for one more, and one that is not empty
pub put_on : {X : Type 0} (n : ℕ) (xs : List X) (x : X) → put_result n xs ≡ Ok tt → put_after n xs x ≡ x ∷ xs
put_on n xs x e = grind arith

taken_off : {X : Type 0} (xs : List X) (x : X) → take_result xs ≡ Ok x → xs ≡ x ∷ take_after xs
taken_off xs x e = grind arith

pub record Holds (steps : List BandStep) (rs : List Row) : Type 0 where
  pub admitted : all_admitted (facts_of steps) ≡ true
  pub present : rs ≡ rows_of (facts_of steps)
  pub saved : steps ≡ steps_of (facts_of steps)

pub holding : (b : Bands) → Holds (held b.history.stack) b.table.rows
holding b = record { admitted = b.admitted; present = b.present; saved = b.steps }

pub nothing_held : {steps : List BandStep} {rs : List Row} → steps ≡ [] → rs ≡ replicate 1024 fresh → Holds steps rs
unfolding rows_of steps_of
nothing_held {steps} {rs} e f = subst (λ l. Holds l rs) (sym e) (subst (Holds []) (sym f) (record { admitted = refl; present = refl; saved = refl }))

-- the step of an admitted fact stays in the table
pub record Inside (s : BandStep) : Type 0 where
  pub low : s.low < 1024
  pub high : s.high < 1024
  pub fits : s.above.size + s.below.size < 65536

step_fact : (rs : List Row) (f : Fact) → fact_of (step_of rs f) ≡ f
step_fact rs f = grind arith

module _ {steps : List BandStep} {rs : List Row} (h : Holds steps rs) where
  good : Good (facts_of steps) rs (place_of rs)
  good = subst (λ (l : List Row). Good (facts_of steps) l (place_of l)) (sym h.present) (good_rows (facts_of steps) h.admitted)

  pub sound : Sound rs
  sound = good_sound good

  pub stays_inside : (f : Fact) {s : BandStep} → admits_band f ≡ true → s ≡ step_of rs f → Inside s
  stays_inside f {s} e is =
      let l = fact_bands f e in
      let a = good.within f.first l.0 in
      let b = good.within (far f) l.1 in
      let p = sound.most (place_of rs f.first).root in
      let q = sound.most (place_of rs (far f)).root in
      subst Inside (sym is) (record { low = grind arith; high = grind arith; fits = grind arith })

  pub pushed : (f : Fact) {s : BandStep} {more : List BandStep} {ts : List Row} → admits_band f ≡ true → s ≡ step_of rs f → more ≡ s ∷ steps → ts ≡ after s rs → Holds more ts
  unfolding rows_of steps_of
  pushed f {s} {more} {ts} e is on d =
      let fs : List Fact = facts_of steps in
      let step : s ≡ step_of (rows_of (facts_of steps)) f = is ∙ ap (λ (l : List Row). step_of l f) h.present in
      let facts : facts_of (s ∷ steps) ≡ f ∷ facts_of steps = ap (λ (g : Fact). g ∷ fs) (ap fact_of is ∙ step_fact rs f) in
      subst (λ l. Holds l ts) (sym on) (record {
        admitted = ap all_admitted facts ∙ and_from _ _ e h.admitted;
        present = d ∙ (λ i. after (step i) (h.present i)) ∙ ap rows_of (sym facts);
        saved = (λ i. step i ∷ h.saved i) ∙ ap steps_of (sym facts);
      })

  -- what the rows say
  pub related_now : (a b : ℕ) → related rs a b ≡ relation (facts_of steps) a b
  related_now a b = ap (λ (l : List Row). related l a b) h.present ∙ related_rule (facts_of steps) h.admitted a b

  pub depth_now : (a : ℕ) → a < 1024 → (d : Depth) → d.links ≡ (place_of rs a).links → d.bands ≡ (row_at rs (place_of rs a).root).size → Some d ≡ depth_of (facts_of steps) a
  depth_now a l d e f =
      let links = e ∙ ap (λ (l : List Row). (place_of l a).links) h.present in
      let bands = f ∙ ap (λ (l : List Row). (row_at l (place_of l a).root).size) h.present ∙ group_rule (facts_of steps) h.admitted a l in
      (λ i. Some (record { links = links i; bands = bands i })) ∙ sym (cond-true _ _ _ (lt-ltb a 1024 l))

-- the newest step
pub record Newest (top : BandStep) (rest : List BandStep) (rs : List Row) : Type 0 where
  pub inside : Inside top
  pub holds : Holds rest (undone top rs)

pub newest : {steps : List BandStep} {rs : List Row} {top : BandStep} → Holds steps rs → take_result steps ≡ Ok top → Newest top (take_after steps) rs
unfolding rows_of steps_of
newest {steps} {rs} {top} h e =
    let rest = take_after steps in
    let t : Holds (top ∷ take_after steps) rs = subst (λ l. Holds l rs) (taken_off steps top e) h in
    let fs : List Fact = facts_of (take_after steps) in
    let k = and_parts _ _ t.admitted in
    let is : top ≡ step_of (rows_of (facts_of (take_after steps))) (fact_of top) = ap (λ (l : List BandStep). get_or l 0 top) t.saved in
    let saved = ap (drop 1) t.saved in
    let i = stays_inside {steps = rest} {rs = rows_of fs} (record { admitted = k.1; present = refl; saved = saved }) (fact_of top) k.0 is in
    record {
      inside = i;
      holds = record { admitted = k.1; present = (λ j. undone (is j) (t.present j)) ∙ taken_back fs (fact_of top); saved = saved };
    }

pub popped : {steps rest : List BandStep} {rs ts : List Row} {top : BandStep} → Holds steps rs → take_result steps ≡ Ok top → rest ≡ take_after steps → ts ≡ undone top rs → Holds rest ts
popped {rs = rs} {top = top} h e is d = subst (Holds _) (sym d) (subst (λ l. Holds l (undone top rs)) (sym is) (newest h e).holds)
