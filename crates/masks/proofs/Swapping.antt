-- The order of the facts does not matter: two neighbours can be swapped.
use Rattle.std.proofs.Common.{◌≡◌, ℕ, Bool, cond, ◌||◌, List, ◌∷◌, refl, ap, ◌∙◌, arith}
use lib.Bits.{bit_xor}
use Rattle.undoable.specs.declared.facts.Fact.{Fact}
use Rattle.undoable.specs.Kinds.{OrderBlind}
use Rattle.undoable.proofs.Orders.{Rearranged, none, keep, swap, then, rearranged}
use Rattle.masks.specs.Rule.{mask_of, asked_of, is_sum, masks_kind}
use Rattle.masks.proofs.Highest.{xor_turn}

-- the middle two of four tests
between : (a b c d : Bool) → ((a || b) || (c || d)) ≡ ((a || c) || (b || d))
between a b c d = grind arith

swapped : (x y : Fact) (xs : List Fact) (m : ℕ) → is_sum (x ∷ (y ∷ xs)) m ≡ is_sum (y ∷ (x ∷ xs)) m
swapped x y xs m =
    between (is_sum xs m) (is_sum xs (bit_xor m (mask_of y))) (is_sum xs (bit_xor m (mask_of x))) (is_sum xs (bit_xor (bit_xor m (mask_of x)) (mask_of y)))
    ∙ ap (λ n. (is_sum xs m || is_sum xs (bit_xor m (mask_of x))) || (is_sum xs (bit_xor m (mask_of y)) || is_sum xs n)) (xor_turn m (mask_of x) (mask_of y))

same_sums : {xs ys : List Fact} → Rearranged xs ys → (m : ℕ) → is_sum xs m ≡ is_sum ys m
same_sums none m = refl
same_sums (keep {x} {xs} {ys} p) m = λ i. same_sums p m i || same_sums p (bit_xor m (mask_of x)) i
same_sums (swap {x} {y} {xs}) m = swapped x y xs m
same_sums (then p q) m = same_sums p m ∙ same_sums q m

pub order_blind : (c : ℕ) → OrderBlind (masks_kind c)
order_blind c xs ys a e q h = ap (λ (t : Bool). cond t 1 0) (same_sums (rearranged xs ys e) (asked_of q))
