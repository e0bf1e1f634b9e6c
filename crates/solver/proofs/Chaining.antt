-- Chains of facts: one entry more leaves the others, and what is put after what was put adds up.
use Rattle.std.proofs.Common.{◌≡◌, ℕ, zero, suc, ◌+◌, ◌<◌, ◌≤◌, Bool, count_by, cond, eqb, ◌≢◌, List, [], ◌∷◌, ◌++◌, length, get_or, set, replicate, sym, refl, ap, ◌∙◌, ⊎_elim, append_assoc, arith}
use Rattle.std.proofs.lemmas.List.{get_or-set_same, get_or-set_other, replicate-append-replicate}
use Rattle.std.proofs.lemmas.List.Sums.{sum_by-append}
use Rattle.std.proofs.lemmas.Bool.{cases_eq, eq-eqb, ne_eqb}
use Rattle.solver.specs.Chains.{link_of, fact_of_entry, link_after, chain, facts_at, times_in, Added}

-- a chain does not depend on what bounds its length
chain_bound : (ps : List (List ℕ)) (used : ℕ) → ((k : ℕ) → k < used → link_after ps k ≤ k) → (n m k : ℕ) → k ≤ used → k ≤ n → k ≤ m → chain n ps k ≡ chain m ps k
chain_bound ps used nx zero zero k u a b = refl
chain_bound ps used nx zero (suc m) zero u a b = refl
chain_bound ps used nx zero (suc m) (suc k) u a b = absurd (omega arith)
chain_bound ps used nx (suc n) zero zero u a b = refl
chain_bound ps used nx (suc n) zero (suc k) u a b = absurd (omega arith)
chain_bound ps used nx (suc n) (suc m) zero u a b = refl
chain_bound ps used nx (suc n) (suc m) (suc k) u a b =
    let next = nx k (omega arith) in
    ap (λ l. fact_of_entry ps k ∷ l) (chain_bound ps used nx n m (link_after ps k) (omega (arith, next)) (omega (arith, next)) (omega (arith, next)))

-- the same chain in tables that agree on the entries in use
chain_same : (ps qs : List (List ℕ)) (used : ℕ) → ((k : ℕ) → k < used → get_or ps k [] ≡ get_or qs k []) → ((k : ℕ) → k < used → link_after ps k ≤ k) → (n k : ℕ) → k ≤ used → chain n ps k ≡ chain n qs k
chain_same ps qs used same nx zero k u = refl
chain_same ps qs used same nx (suc n) zero u = refl
chain_same ps qs used same nx (suc n) (suc k) u =
    let next = nx k (omega arith) in
    let here = same k (omega arith) in
    (λ i. get_or (here i) 0 0 ∷ chain n ps (link_after ps k)) ∙ ap (λ l. fact_of_entry qs k ∷ l) (chain_same ps qs used same nx n (link_after ps k) (omega (arith, next)) ∙ ap (λ x. chain n qs (get_or x 1 0)) here)

-- the first entry of a chain, and the chain behind it
pub chain_step : (ps : List (List ℕ)) (k e : ℕ) → ((j : ℕ) → j < k → link_after ps j ≤ j) → e + 1 ≡ k → chain k ps k ≡ fact_of_entry ps e ∷ chain (link_after ps e) ps (link_after ps e)
chain_step ps zero e nx h = absurd (omega arith)
chain_step ps (suc k) e nx h =
    let one : k ≡ e = omega arith in
    let next = nx k (omega arith) in
    ap (λ l. fact_of_entry ps k ∷ l) (chain_bound ps k (λ j lt. nx j (omega arith)) k (link_after ps k) (link_after ps k) next next (omega arith))
    ∙ (λ i. fact_of_entry ps (one i) ∷ chain (link_after ps (one i)) ps (link_after ps (one i)))

-- how many elements of two lists pass a test
pub count-append : {X : Type 0} (p : X → Bool) (xs ys : List X) → count_by p (xs ++ ys) ≡ count_by p xs + count_by p ys
count-append p xs ys = sum_by-append (λ x. cond (p x) 1 0) xs ys

-- what is added after what was added
pub added_both : (f : ℕ) (xs ys : List ℕ) (old mid new : ℕ → List ℕ) → Added f xs old mid → Added f ys mid new → Added f (xs ++ ys) old new
added_both f xs ys old mid new a b m =
    let turn : times_in m ys + times_in m xs ≡ times_in m (xs ++ ys) = omega (arith, count-append (eqb m) xs ys) in
    b m
    ∙ ap (λ l. replicate (times_in m ys) f ++ l) (a m)
    ∙ sym (append_assoc (replicate (times_in m ys) f) (replicate (times_in m xs) f) (old m))
    ∙ ap (λ l. l ++ old m) (replicate-append-replicate (times_in m ys) (times_in m xs) f ∙ ap (λ n. replicate n f) turn)

-- one entry more, on the chain of node number `at`
module _ (f at used spare : ℕ) (ns ps : List (List ℕ)) (heads : (m : ℕ) → link_of ns m ≤ used) (nexts : (k : ℕ) → k < used → link_after ps k ≤ k) (room : used < length ps) (there : at < length ns) where
  abbrev ns' : List (List ℕ)
  ns' = set ns at ((used + 1) ∷ (spare ∷ []))

  abbrev ps' : List (List ℕ)
  ps' = set ps used (f ∷ (link_of ns at ∷ []))

  link_here : link_of ns' at ≡ used + 1
  link_here = ap (λ x. get_or x 0 0) (get_or-set_same ns at ((used + 1) ∷ (spare ∷ [])) [] there)

  link_other : (m : ℕ) → m ≢ at → link_of ns' m ≡ link_of ns m
  link_other m ne = ap (λ x. get_or x 0 0) (get_or-set_other ns at m ((used + 1) ∷ (spare ∷ [])) [] ne)

  entry : get_or ps' used [] ≡ f ∷ (link_of ns at ∷ [])
  entry = get_or-set_same ps used (f ∷ (link_of ns at ∷ [])) [] room

  agree : (k : ℕ) → k < used → get_or ps k [] ≡ get_or ps' k []
  agree k lt = let ne : k ≢ used = omega arith in sym (get_or-set_other ps used k (f ∷ (link_of ns at ∷ [])) [] ne)

  facts_here : facts_at ns' ps' at ≡ f ∷ facts_at ns ps at
  facts_here =
      let one : used + 1 ≡ suc used = omega arith in
      let k = link_of ns at in
      (λ i. chain (link_here i) ps' (link_here i))
      ∙ (λ i. chain (one i) ps' (one i))
      ∙ (λ i. get_or (entry i) 0 0 ∷ chain used ps' (get_or (entry i) 1 0))
      ∙ ap (λ x. f ∷ x) (sym (chain_same ps ps' used agree nexts used k (heads at)) ∙ chain_bound ps used nexts used k k (heads at) (heads at) (omega arith))

  facts_other : (m : ℕ) → m ≢ at → facts_at ns' ps' m ≡ facts_at ns ps m
  facts_other m ne = (λ i. chain (link_other m ne i) ps' (link_other m ne i)) ∙ sym (chain_same ps ps' used agree nexts (link_of ns m) (link_of ns m) (heads m))

  pub put_one : Added f (at ∷ []) (facts_at ns ps) (facts_at ns' ps')
  put_one m =
      ⊎_elim
      (λ (e : m ≡ at).
      ap (facts_at ns' ps') e ∙ facts_here ∙ ap (λ x. f ∷ facts_at ns ps x) (sym e) ∙ ap (λ n. replicate n f ++ facts_at ns ps m) (sym (ap (λ b. 0 + cond b 1 0) (eq-eqb m at e))))
      (λ (ne : m ≢ at). facts_other m ne ∙ ap (λ n. replicate n f ++ facts_at ns ps m) (sym (ap (λ b. 0 + cond b 1 0) (ne_eqb m at ne))))
      (cases_eq m at)
