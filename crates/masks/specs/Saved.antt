-- The pushes that are saved, and the facts that they stand for.
use Rattle.std.specs.Prelude.{ℕ, ◌/◌, ◌%◌, ◌^◌, List, [], ◌∷◌, map}
use Rattle.undoable.specs.declared.facts.Fact.{Fact}
use Rattle.masks.specs.declared.lines.MaskStep.{MaskStep}
use Rattle.masks.specs.Reducing.{basis_of, slot_for}

-- a mask's two fields
abbrev pub fact_of : ℕ → Fact
fact_of m = record { first = m / 2 ^ 29; second = m % 2 ^ 29 }

abbrev pub facts_of : List MaskStep → List Fact
facts_of steps = map (λ s. fact_of s.mask) steps

-- for private contracts: the masks of some pushes, and the pushes of some masks, each with the slot that it filled
abbrev pub masks_of : List MaskStep → List ℕ
masks_of steps = map (λ s. s.mask) steps

abbrev pub steps_of : List ℕ → List MaskStep
steps_of [] = []
steps_of (m ∷ ms) = record { mask = m; slot = slot_for (basis_of ms) m } ∷ steps_of ms
