-- Prizes: the least number of prizes whose amounts sum to a payout.
use Rattle.std.specs.Prelude.{◌≡◌, ℕ, zero, suc, ◌+◌, ◌-◌, ◌*◌, ◌≤◌, min, Bool, cond, ◌&&◌, ◌⊎◌, List, [], ◌∷◌, ◌==◌, ◌≢◌, nat_le}
use Rattle.undoable.specs.declared.facts.Fact.{Fact}
use Rattle.undoable.specs.declared.facts.Question.{Question}
use Rattle.undoable.specs.Kinds.{Kind, Admitted}

-- a fact is an amount, 1 to 1,000, and copies, 1 to 1,000
abbrev pub amount : Fact → ℕ
amount f = f.first

abbrev pub copies : Fact → ℕ
copies f = f.second

abbrev pub admits_prize : Fact → Bool
admits_prize f = nat_le 1 (amount f) && nat_le (amount f) 1000 && nat_le 1 (copies f) && nat_le (copies f) 1000

-- a question is a payout, 0 to 1,000, with second 0
abbrev pub asks_payout : Question → Bool
asks_payout q = nat_le q.first 1000 && q.second == 0

-- a payout v by k prizes of amount a and what r needs for the rest; 1,001 stands for none
abbrev pub with_some : ℕ → (ℕ → ℕ) → ℕ → ℕ → ℕ
with_some a r v k = cond (nat_le (k * a) v) (min (k + r (v - k * a)) 1001) 1001

-- the least over at most n prizes of amount a
abbrev pub with_most : ℕ → (ℕ → ℕ) → ℕ → ℕ → ℕ
with_most a r v zero = with_some a r v 0
with_most a r v (suc n) = min (with_most a r v n) (with_some a r v (suc n))

-- the answer rule, entry by entry; `FewestPrizes` says what it comes to
abbrev pub fewest : List Fact → ℕ → ℕ
fewest [] v = cond (v == 0) 0 1001
fewest (f ∷ fs) v = with_most (amount f) (fewest fs) v (copies f)

-- a selection says how often each entry is used: at most its copies
abbrev pub Selection : List Fact → List ℕ → Type 0
Selection [] [] = Unit {0}
Selection [] (k ∷ ks) = ⊥
Selection (f ∷ fs) [] = ⊥
Selection (f ∷ fs) (k ∷ ks) = (k ≤ copies f) × Selection fs ks

-- the sum of the amounts of a selection, and the number of its prizes
abbrev pub worth : List Fact → List ℕ → ℕ
worth [] ks = 0
worth (f ∷ fs) [] = 0
worth (f ∷ fs) (k ∷ ks) = k * amount f + worth fs ks

abbrev pub prizes : List ℕ → ℕ
prizes [] = 0
prizes (k ∷ ks) = k + prizes ks

-- a payout's least number of prizes: no selection that sums to it has fewer, and one has as many; or it is 1,001 and none
-- sums to it
pub record Least (fs : List Fact) (v n : ℕ) : Type 0 where
  pub least : (ks : List ℕ) → Selection fs ks → worth fs ks ≡ v → n ≤ prizes ks
  pub attained : ((n ≤ 1000) × ((ks : List ℕ) × Selection fs ks × (worth fs ks ≡ v) × (prizes ks ≡ n))) ⊎ ((n ≡ 1001) × ((ks : List ℕ) → Selection fs ks → worth fs ks ≢ v))

-- the kind of a prizes structure with room for c facts
abbrev pub prizes_kind : ℕ → Kind
prizes_kind c = record { capacity = c; admits = admits_prize; asks = asks_payout; rule = λ fs q. fewest fs q.first }

-- for admitted facts and payouts the rule is the least over all selections
abbrev pub FewestPrizes : Type 0
FewestPrizes = (fs : List Fact) → Admitted (prizes_kind 0) fs → (v : ℕ) → v ≤ 1000 → Least fs v (fewest fs v)

-- numbers worked by hand: prizes (10, 2) and (25, 1)
abbrev pub WorkedPrizes : Type 0
WorkedPrizes =
    let fs : List Fact = record { first = 10; second = 2 } ∷ (record { first = 25; second = 1 } ∷ []) in
    (fewest fs 45 ≡ 3) × (fewest fs 30 ≡ 1001) × (fewest fs 0 ≡ 0)
