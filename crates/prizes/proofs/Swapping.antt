-- The order of the facts does not matter: a selection follows its entries.
use Rattle.std.proofs.Common.{◌≡◌, ℕ, ◌<◌, ◌≤◌, List, [], ◌∷◌, refl, ⊎_elim, arith}
use Rattle.std.proofs.lemmas.Bool.{cases_lt}
use Rattle.undoable.specs.declared.facts.Fact.{Fact}
use Rattle.undoable.specs.Kinds.{OrderBlind}
use Rattle.undoable.proofs.Orders.{Rearranged, none, keep, swap, then, rearranged}
use Rattle.prizes.specs.Rule.{fewest, Selection, worth, prizes, prizes_kind}
use Rattle.prizes.proofs.Leasts.{Made, fewest_le, fewest_made, fewest_most}

-- what entries can make with the same entry in front, and with two neighbours swapped
kept : (x : Fact) (xs ys : List Fact) → ((v n : ℕ) → Made xs v n → Made ys v n) → (v n : ℕ) (ks : List ℕ) → Selection (x ∷ xs) ks → worth (x ∷ xs) ks ≡ v → prizes ks ≡ n → Made (x ∷ ys) v n
kept x xs ys f v n [] s w c = absurd s
kept x xs ys f v n (k ∷ ks) s w c =
    let m = f (worth xs ks) (prizes ks) (record { ks = ks; chosen = s.1; sums = refl; many = refl }) in
    record {
      ks = k ∷ m.ks;
      chosen = (s.0, m.chosen);
      sums = omega (arith, w, m.sums);
      many = omega (arith, c, m.many);
    }

swapped : (x y : Fact) (xs : List Fact) (v n : ℕ) (ks : List ℕ) → Selection (x ∷ (y ∷ xs)) ks → worth (x ∷ (y ∷ xs)) ks ≡ v → prizes ks ≡ n → Made (y ∷ (x ∷ xs)) v n
swapped x y xs v n [] s w c = absurd s
swapped x y xs v n (j ∷ []) s w c = absurd s.1
swapped x y xs v n (j ∷ (k ∷ ks)) s w c = record {
  ks = k ∷ (j ∷ ks);
  chosen = (s.1.0, (s.0, s.1.1));
  sums = omega (arith, w);
  many = omega (arith, c);
}

carried : {xs ys : List Fact} → Rearranged xs ys → (v n : ℕ) → Made xs v n → Made ys v n
carried none v n m = m
carried (keep {x} {xs} {ys} p) v n m = kept x xs ys (λ w k. carried p w k) v n m.ks m.chosen m.sums m.many
carried (swap {x} {y} {xs}) v n m = swapped x y xs v n m.ks m.chosen m.sums m.many
carried (then p q) v n m = carried q v n (carried p v n m)

turned : {xs ys : List Fact} → Rearranged xs ys → Rearranged ys xs
turned none = none
turned (keep p) = keep (turned p)
turned swap = swap
turned (then p q) = then (turned q) (turned p)

not_more : {xs ys : List Fact} → Rearranged xs ys → (v : ℕ) → fewest ys v ≤ fewest xs v
not_more {xs} {ys} p v =
    ⊎_elim
    (λ (l : fewest xs v < 1001).
    let m = carried p v (fewest xs v) (fewest_made xs v (omega arith)) in
    omega (arith, fewest_le ys m.ks v m.chosen m.sums, m.many))
    (λ (l : 1001 ≤ fewest xs v). omega (arith, fewest_most ys v))
    (cases_lt (fewest xs v) 1001)

pub order_blind : (c : ℕ) → OrderBlind (prizes_kind c)
order_blind c xs ys a e q h =
    let p = rearranged xs ys e in
    omega (arith, not_more p q.first, not_more (turned p) q.first)
