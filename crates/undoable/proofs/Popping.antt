-- Popping one fact after another.
use Rattle.std.proofs.Common.{◌≡◌, ℕ, zero, suc, ◌+◌, List, [], ◌∷◌, drop, sym, refl, ap, ◌∙◌, add-one}
use Rattle.undoable.specs.declared.facts.Fact.{Fact}
use Rattle.undoable.specs.Calls.{pop_stack}

step : (n : ℕ) (s : List Fact) → pop_stack (drop n s) ≡ drop (suc n) s
step zero [] = refl
step zero (f ∷ s) = refl
step (suc n) [] = refl
step (suc n) (f ∷ s) = step n s

pub pop_drop : (n : ℕ) (s : List Fact) → pop_stack (drop n s) ≡ drop (n + 1) s
pop_drop n s = step n s ∙ ap (λ k. drop k s) (sym (add-one n))
