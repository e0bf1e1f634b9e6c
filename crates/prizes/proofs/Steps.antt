-- The least over fewer than n prizes of the same amount: one prize more, and the end where the payout is too small for one more.
use Rattle.std.proofs.Common.{◌≡◌, ℕ, zero, suc, ◌+◌, ◌-◌, ◌*◌, ◌<◌, ◌≤◌, min, ap, sym, ◌∙◌, ⊎_elim, add-one, arith}
use Rattle.std.proofs.lemmas.Nat.{mul-le}
use Rattle.std.proofs.lemmas.Bool.{cases_lt, cond-true, cond-false, le-leb, lt-leb}
use Rattle.prizes.specs.Rule.{with_some, with_most}
use Rattle.prizes.proofs.Leasts.{some_most, most_most}

module _ (a : ℕ) (r : ℕ → ℕ) (v : ℕ) where
  abbrev pub least_below : ℕ → ℕ
  least_below zero = 1001
  least_below (suc n) = with_most a r v n

  below_next : (n : ℕ) → least_below (suc n) ≡ min (least_below n) (with_some a r v n)
  below_next zero = omega (arith, some_most a r v 0)
  below_next (suc n) = omega arith

  below_most : (n : ℕ) → least_below n ≤ 1001
  below_most zero = omega arith
  below_most (suc n) = most_most a r v n

  pub below_more : (n : ℕ) → n * a ≤ v → min (least_below n) (n + r (v - n * a)) ≡ least_below (n + 1)
  below_more n h =
      let s : with_some a r v n ≡ min (n + r (v - n * a)) 1001 = cond-true _ _ _ (le-leb (n * a) v h) in
      omega (arith, s, below_next n, below_most n, ap least_below (add-one n))

  below_stop : (n m : ℕ) → n ≤ m → v < n * a → least_below m ≡ least_below n
  below_stop n zero h p = let z : 0 ≡ n = omega arith in ap least_below z
  below_stop n (suc m) h p =
      ⊎_elim
      (λ (l : n < suc m).
      let big : v < m * a = omega (arith, mul-le n a m a (omega arith) (omega arith)) in
      let s : with_some a r v m ≡ 1001 = cond-false _ _ _ (lt-leb (m * a) v big) in
      omega (arith, s, below_next m, below_most m, below_stop n m (omega arith) p))
      (λ (l : suc m ≤ n). let z : suc m ≡ n = omega arith in ap least_below z)
      (cases_lt n (suc m))

  -- all the prizes, or as many as the payout holds
  pub below_all : (n m : ℕ) → n ≡ m + 1 → least_below n ≡ with_most a r v m
  below_all n m e = ap least_below e ∙ ap least_below (add-one m)

  pub below_end : (n m : ℕ) → n ≤ m → v < n * a → least_below n ≡ with_most a r v m
  below_end n m h p = sym (below_stop n (suc m) (omega arith) p)
