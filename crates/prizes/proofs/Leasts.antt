-- The rule is the least over all selections.
use Rattle.std.proofs.Common.{◌≡◌, ℕ, zero, suc, ◌+◌, ◌-◌, ◌*◌, ◌<◌, ◌≤◌, min, true, false, eqb, leb, List, [], ◌∷◌, sym, subst, inl, inr, ⊎_elim, arith}
use Rattle.std.proofs.lemmas.Nat.{mul-le}
use Rattle.std.proofs.lemmas.Bool.{cases_Bool, cases_lt, cond-true, cond-false, le-leb, leb-true, eq-eqb, eqb-true, and_parts}
use Rattle.undoable.specs.declared.facts.Fact.{Fact}
use Rattle.undoable.specs.Kinds.{Admitted}
use Rattle.prizes.specs.Rule.{amount, copies, with_some, with_most, fewest, Selection, worth, prizes, prizes_kind, FewestPrizes}

module _ (a : ℕ) (r : ℕ → ℕ) (v : ℕ) where
  some_le : (k : ℕ) → k * a ≤ v → with_some a r v k ≤ k + r (v - k * a)
  some_le k h = let e : with_some a r v k ≡ min (k + r (v - k * a)) 1001 = cond-true _ _ _ (le-leb (k * a) v h) in omega (arith, e)

  pub some_most : (k : ℕ) → with_some a r v k ≤ 1001
  some_most k =
      ⊎_elim
      (λ (h : leb (k * a) v ≡ true). let e : with_some a r v k ≡ min (k + r (v - k * a)) 1001 = cond-true _ _ _ h in omega (arith, e))
      (λ (h : leb (k * a) v ≡ false). let e : with_some a r v k ≡ 1001 = cond-false _ _ _ h in omega (arith, e))
      (cases_Bool (leb (k * a) v))

  pub most_most : (n : ℕ) → with_most a r v n ≤ 1001
  most_most zero = some_most 0
  most_most (suc n) = omega (arith, most_most n)

  most_le : (n k : ℕ) → k ≤ n → k * a ≤ v → with_most a r v n ≤ k + r (v - k * a)
  most_le zero k h p = let z : k ≡ 0 = omega arith in subst (λ m. with_most a r v 0 ≤ m + r (v - m * a)) (sym z) (some_le 0 (subst (λ m. m * a ≤ v) z p))
  most_le (suc n) k h p =
      ⊎_elim
      (λ (l : k < suc n). let i : with_most a r v n ≤ k + r (v - k * a) = most_le n k (omega arith) p in omega (arith, i))
      (λ (l : suc n ≤ k). let z : k ≡ suc n = omega arith in subst (λ m. with_most a r v (suc n) ≤ m + r (v - m * a)) (sym z) (let i = some_le (suc n) (subst (λ m. m * a ≤ v) z p) in omega (arith, i)))
      (cases_lt k (suc n))

  -- some number of prizes is the least
  record Reached (n x : ℕ) : Type 0 where
    k : ℕ
    few : k ≤ n
    fits : k * a ≤ v
    exact : x ≡ k + r (v - k * a)

  some_reached : (n k : ℕ) → k ≤ n → with_some a r v k ≤ 1000 → Reached n (with_some a r v k)
  some_reached n k h s =
      ⊎_elim
      (λ (t : leb (k * a) v ≡ true).
      let e : with_some a r v k ≡ min (k + r (v - k * a)) 1001 = cond-true _ _ _ t in
      record { k = k; few = h; fits = leb-true (k * a) v t; exact = omega (arith, e) })
      (λ (t : leb (k * a) v ≡ false). let e : with_some a r v k ≡ 1001 = cond-false _ _ _ t in absurd (omega (arith, e)))
      (cases_Bool (leb (k * a) v))

  most_reached : (n : ℕ) → with_most a r v n ≤ 1000 → Reached n (with_most a r v n)
  most_reached zero s = some_reached 0 0 (omega arith) s
  most_reached (suc n) s =
      ⊎_elim
      (λ (l : with_most a r v n < with_some a r v (suc n)).
      let e : with_most a r v n ≡ with_most a r v (suc n) = omega arith in
      let t = most_reached n (omega arith) in
      subst (Reached (suc n)) e (record { k = t.k; few = omega (arith, t.few); fits = t.fits; exact = t.exact }))
      (λ (l : with_some a r v (suc n) ≤ with_most a r v n).
      let e : with_some a r v (suc n) ≡ with_most a r v (suc n) = omega arith in
      subst (Reached (suc n)) e (some_reached (suc n) (suc n) (omega arith) (omega arith)))
      (cases_lt (with_most a r v n) (with_some a r v (suc n)))

pub fewest_most : (fs : List Fact) (v : ℕ) → fewest fs v ≤ 1001
fewest_most [] v =
    ⊎_elim
    (λ (h : eqb v 0 ≡ true). let e : fewest [] v ≡ 0 = cond-true _ _ _ h in omega (arith, e))
    (λ (h : eqb v 0 ≡ false). let e : fewest [] v ≡ 1001 = cond-false _ _ _ h in omega (arith, e))
    (cases_Bool (eqb v 0))
fewest_most (f ∷ fs) v = most_most (amount f) (fewest fs) v (copies f)

-- no selection has fewer prizes
pub fewest_le : (fs : List Fact) (ks : List ℕ) (v : ℕ) → Selection fs ks → worth fs ks ≡ v → fewest fs v ≤ prizes ks
fewest_le [] [] v s e = let z : fewest [] v ≡ 0 = cond-true _ _ _ (eq-eqb v 0 (sym e)) in omega (arith, z)
fewest_le [] (k ∷ ks) v s e = absurd s
fewest_le (f ∷ fs) [] v s e = absurd s
fewest_le (f ∷ fs) (k ∷ ks) v s e =
    let rest : worth fs ks ≡ v - k * amount f = omega arith in
    let le : k * amount f ≤ v = omega arith in
    let i = fewest_le fs ks (v - k * amount f) s.1 rest in
    omega (arith, i, most_le (amount f) (fewest fs) v (copies f) k s.0 le)

-- a selection with these prizes
pub record Made (fs : List Fact) (v n : ℕ) : Type 0 where
  pub ks : List ℕ
  pub chosen : Selection fs ks
  pub sums : worth fs ks ≡ v
  pub many : prizes ks ≡ n

pub fewest_made : (fs : List Fact) (v : ℕ) → fewest fs v ≤ 1000 → Made fs v (fewest fs v)
fewest_made [] v s =
    ⊎_elim
    (λ (h : eqb v 0 ≡ true). record { ks = []; chosen = tt; sums = sym (eqb-true v 0 h); many = sym (cond-true _ _ _ h) })
    (λ (h : eqb v 0 ≡ false). let e : fewest [] v ≡ 1001 = cond-false _ _ _ h in absurd (omega (arith, e)))
    (cases_Bool (eqb v 0))
fewest_made (f ∷ fs) v s =
    let t = most_reached (amount f) (fewest fs) v (copies f) s in
    let m = fewest_made fs (v - t.k * amount f) (omega (arith, t.exact)) in
    record {
      ks = t.k ∷ m.ks;
      chosen = (t.few, m.chosen);
      sums = omega (arith, m.sums, t.fits);
      many = omega (arith, m.many, t.exact);
    }

-- each prize is worth at least 1
prizes_le : (fs : List Fact) → Admitted (prizes_kind 0) fs → (ks : List ℕ) → Selection fs ks → prizes ks ≤ worth fs ks
prizes_le [] a [] s = omega arith
prizes_le [] a (k ∷ ks) s = absurd s
prizes_le (f ∷ fs) a [] s = absurd s
prizes_le (f ∷ fs) a (k ∷ ks) s =
    let p = and_parts _ _ (and_parts _ _ (and_parts _ _ a.0).0).0 in
    let one = leb-true 1 (amount f) p.0 in
    omega (arith, prizes_le fs a.1 ks s.1, mul-le k 1 k (amount f) (omega arith) one)

pub fewest_prizes : FewestPrizes
fewest_prizes fs a v h = record {
  least = λ ks s e. fewest_le fs ks v s e;
  attained =
      ⊎_elim
      (λ (l : fewest fs v < 1001).
      let few : fewest fs v ≤ 1000 = omega arith in
      let m = fewest_made fs v few in
      inl (few, (m.ks, m.chosen, m.sums, m.many)))
      (λ (l : 1001 ≤ fewest fs v). inr (omega (arith, fewest_most fs v), λ ks s e. omega (arith, fewest_le fs ks v s e, prizes_le fs a ks s)))
      (cases_lt (fewest fs v) 1001);
}
