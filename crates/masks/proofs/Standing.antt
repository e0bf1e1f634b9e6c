-- What stands on a structure's stack, with the basis beside it: after a push, and after a pop.
use Rattle.std.proofs.Common.{◌≡◌, ℕ, ◌^◌, ◌<◌, true, false, ltb, leb, List, ◌∷◌, length, get_or, drop, IfSome, Option, Ok, sym, ap, ◌∙◌, subst, arith}
use Rattle.std.proofs.lemmas.Bool.{and_parts, and_from, lt-ltb, ltb-true}
use Rattle.undoable.specs.Stacks.{held, put_after, take_result, take_after}
use Rattle.masks.specs.declared.lines.MaskStep.{MaskStep}
use Rattle.masks.specs.declared.structure.Masks.{Masks}
use Rattle.masks.specs.Reducing.{added, slot_for, cleared, basis_of, small}
use Rattle.masks.specs.Saved.{masks_of, steps_of}
use Rattle.masks.proofs.Adding.{slot_clears, added_cleared}
use Rattle.masks.proofs.Spanning.{basis_good}

-- a list with room for one more
pub put_on : {X : Type 0} (n : ℕ) (xs : List X) (x : X) → leb n (length xs) ≡ false → put_after n xs x ≡ x ∷ xs
put_on n xs x h = grind arith

-- a list that is not empty
taken_off : {X : Type 0} (xs : List X) (x : X) → take_result xs ≡ Ok x → xs ≡ x ∷ take_after xs
taken_off xs x e = grind arith

pub record Stands (steps : List MaskStep) (slots : List ℕ) : Type 0 where
  pub masks : small (masks_of steps) ≡ true
  pub saved : steps ≡ steps_of (masks_of steps)
  pub made : slots ≡ basis_of (masks_of steps)

pub standing : (p : Masks) → Stands (held p.history.stack) p.basis.slots
standing p = record { masks = p.masks; saved = p.steps; made = p.made }

pub pushed : {steps after : List MaskStep} {b d : List ℕ} {m : ℕ} {slot : Option ℕ} → Stands steps b → m < 2 ^ 58 → slot ≡ slot_for b m → d ≡ added b m → after ≡ record { mask = m; slot = slot } ∷ steps → Stands after d
unfolding basis_of
pushed {steps} {b = b} {d} {m} {slot} s h e f is =
    subst (λ l. Stands l d) (sym is) (record {
      masks = and_from _ _ (lt-ltb m (2 ^ 58) h) s.masks;
      saved = λ i. record { mask = m; slot = (e ∙ ap (λ l. slot_for l m) s.made) i } ∷ s.saved i;
      made = f ∙ ap (λ l. added l m) s.made;
    })

-- the newest step gives a mask and the slot that it filled
pub record Newest (top : MaskStep) (below : List MaskStep) (b : List ℕ) : Type 0 where
  pub low : top.mask < 2 ^ 58
  pub fits : IfSome top.slot (λ k. k < 58)
  pub stands : Stands below (cleared b top.slot)

pub newest : {steps : List MaskStep} {b : List ℕ} {top : MaskStep} → Stands steps b → take_result steps ≡ Ok top → Newest top (take_after steps) b
unfolding basis_of
newest {steps} {b} {top} s e =
    let below = take_after steps in
    let t : Stands (top ∷ take_after steps) b = subst (λ l. Stands l b) (taken_off steps top e) s in
    let parts = and_parts (ltb top.mask (2 ^ 58)) (small (masks_of below)) t.masks in
    let low = ltb-true top.mask (2 ^ 58) parts.0 in
    let old = basis_of (masks_of below) in
    let good = basis_good (masks_of below) parts.1 in
    let slot : top.slot ≡ slot_for (basis_of (masks_of (take_after steps))) top.mask = ap (λ (l : List MaskStep). (get_or l 0 top).slot) t.saved in
    let basis : b ≡ added (basis_of (masks_of (take_after steps))) top.mask = t.made in
    record {
      low = low;
      fits = subst (λ o. IfSome o (λ k. k < 58)) (sym slot) (slot_clears old good top.mask low);
      stands = record {
        masks = parts.1;
        saved = ap (drop 1) t.saved;
        made = (λ i. cleared (basis i) (slot i)) ∙ added_cleared old good top.mask low;
      };
    }

pub popped : {steps after : List MaskStep} {b d : List ℕ} {top : MaskStep} → Stands steps b → take_result steps ≡ Ok top → after ≡ take_after steps → d ≡ cleared b top.slot → Stands after d
popped {b = b} {d} {top} s e is f = subst (Stands _) (sym f) (subst (λ l. Stands l (cleared b top.slot)) (sym is) (newest s e).stands)
