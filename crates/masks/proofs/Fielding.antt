-- The fields of a mask are admitted, and so are those of all that are saved.
use Rattle.std.proofs.Common.{◌≡◌, ℕ, ◌^◌, ◌<◌, true, ltb, List, [], ◌∷◌, arith}
use Rattle.std.proofs.lemmas.Bool.{and_parts, ltb-true}
use Rattle.undoable.specs.Kinds.{Admitted}
use Rattle.masks.specs.declared.lines.MaskStep.{MaskStep}
use Rattle.masks.specs.Reducing.{small}
use Rattle.masks.specs.Rule.{admits_mask, masks_kind}
use Rattle.masks.specs.Saved.{fact_of, facts_of, masks_of}

fields_fit : (m : ℕ) → m < 2 ^ 58 → admits_mask (fact_of m) ≡ true
fields_fit m h = grind arith

pub all_fit : (c : ℕ) (steps : List MaskStep) → small (masks_of steps) ≡ true → Admitted (masks_kind c) (facts_of steps)
all_fit c [] h = tt
all_fit c (s ∷ steps) h =
    let p = and_parts (ltb s.mask (2 ^ 58)) (small (masks_of steps)) h in
    (fields_fit s.mask (ltb-true s.mask (2 ^ 58) p.0), all_fit c steps p.1)
