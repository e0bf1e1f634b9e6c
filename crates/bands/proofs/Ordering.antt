-- The order of the facts does not matter: the same walks go along them.
use Rattle.std.proofs.Common.{◌≡◌, ℕ, List, ◌∷◌, ap}
use Rattle.undoable.specs.declared.facts.Fact.{Fact}
use Rattle.undoable.specs.Kinds.{OrderBlind}
use Rattle.undoable.proofs.Orders.{Rearranged, none, keep, swap, then, rearranged}
use Rattle.bands.specs.Rule.{Among, here, later, number, relation, bands_kind}
use Rattle.bands.proofs.Labels.{by_walks, tells_same}
use Rattle.bands.proofs.Walking.{walk_on}

kept : {x : Fact} {xs ys : List Fact} → ((f : Fact) → Among f xs → Among f ys) → (f : Fact) → Among f (x ∷ xs) → Among f (x ∷ ys)
kept i f here = here
kept i f (later m) = later (i f m)

swapped : {x y : Fact} {xs : List Fact} (f : Fact) → Among f (x ∷ (y ∷ xs)) → Among f (y ∷ (x ∷ xs))
swapped f here = later here
swapped f (later here) = here
swapped f (later (later m)) = later (later m)

carried : {xs ys : List Fact} → Rearranged xs ys → (f : Fact) → Among f xs → Among f ys
carried none f m = m
carried (keep p) f m = kept (λ g. carried p g) f m
carried swap f m = swapped f m
carried (then p q) f m = carried q f (carried p f m)

turned : {xs ys : List Fact} → Rearranged xs ys → Rearranged ys xs
turned none = none
turned (keep p) = keep (turned p)
turned swap = swap
turned (then p q) = then (turned q) (turned p)

pub order_blind : (c : ℕ) → OrderBlind (bands_kind c)
order_blind c xs ys a e q h =
    let p = rearranged xs ys e in
    let to : (f : Fact) → Among f xs → Among f ys = carried p in
    let from : (f : Fact) → Among f ys → Among f xs = carried (turned p) in
    let t = by_walks ys q.first q.second in
    let same : relation xs q.first q.second ≡ relation ys q.first q.second = tells_same _ _ (by_walks xs q.first q.second) (record {
      even_walk = λ h. walk_on from (t.even_walk h);
      even_only = λ w. t.even_only (walk_on to w);
      odd_walk = λ h. walk_on from (t.odd_walk h);
      odd_only = λ w. t.odd_only (walk_on to w);
    }) in
    ap number same
