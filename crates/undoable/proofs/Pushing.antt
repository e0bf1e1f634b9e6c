-- A push that is refused for want of room, and one that is accepted.
use Rattle.std.proofs.Common.{◌≡◌, ℕ, ◌+◌, ◌%◌, ◌^◌, ◌<◌, ◌≤◌, true, cond, List, ◌∷◌, length, is_ok, Ok, Err, ap, ◌∙◌}
use Rattle.std.proofs.lemmas.Bool.{cond-true, cond-false, lt-ltb, le-ltb}
use Rattle.undoable.specs.declared.facts.Fact.{Fact}
use Rattle.undoable.specs.declared.refusals.PushRefusal.TheVariants.{Full}
use Rattle.undoable.specs.Calls.{push_result, push_stack, push_tally}
use Rattle.undoable.specs.Kinds.{Kind}

module _ (k : Kind) (s : List Fact) (f : Fact) (admitted : k.admits f ≡ true) where
  pub full_result : k.capacity ≤ length s → push_result k s f ≡ Err Full
  full_result h = cond-true _ _ _ admitted ∙ cond-false _ _ _ (le-ltb (length s) k.capacity h)

  pub full_stack : k.capacity ≤ length s → push_stack k s f ≡ s
  full_stack h = ap (λ r. cond (is_ok r) (f ∷ s) s) (full_result h)

  pub full_tally : k.capacity ≤ length s → (t : ℕ) → push_tally k s f t ≡ t
  full_tally h t = ap (λ r. cond (is_ok r) ((t + 1) % 2 ^ 32) t) (full_result h)

  pub push_result_lem : length s < k.capacity → push_result k s f ≡ Ok tt
  push_result_lem h = cond-true _ _ _ admitted ∙ cond-true _ _ _ (lt-ltb (length s) k.capacity h)

  pub push_stack_lem : length s < k.capacity → push_stack k s f ≡ f ∷ s
  push_stack_lem h = ap (λ r. cond (is_ok r) (f ∷ s) s) (push_result_lem h)

  pub push_tally_lem : length s < k.capacity → (t : ℕ) → push_tally k s f t ≡ (t + 1) % 2 ^ 32
  push_tally_lem h t = ap (λ r. cond (is_ok r) ((t + 1) % 2 ^ 32) t) (push_result_lem h)
