-- The basis that masks make spans the sums of their selections.
use Rattle.std.proofs.Common.{◌≡◌, ℕ, zero, suc, ◌^◌, ◌<◌, ◌≤◌, true, ◌||◌, eqb, List, [], ◌∷◌, get_or, replicate, Decides, sym, ap, ◌∙◌, subst, inl, inr, ⊎_elim, arith}
use lib.Bits.{bit_xor, xor_zero_r}
use Rattle.std.proofs.lemmas.Nat.{div-add-mod'}
use Rattle.std.proofs.lemmas.List.{get_or-replicate, get_or_past, length-replicate}
use Rattle.std.proofs.lemmas.Bool.{cases_lt, ltb-true, and_parts}
use Rattle.std.proofs.lemmas.Bool.Decides.{same_from_decides, Decides-eqb, Decides-or, Decides-like}
use Rattle.masks.specs.declared.lines.MaskStep.{MaskStep}
use Rattle.masks.specs.Reducing.{reduced, basis_of, small}
use Rattle.masks.specs.Rule.{is_sum}
use Rattle.masks.specs.Saved.{facts_of, masks_of}
use Rattle.masks.proofs.Adding.{Good, added_good, added_spans}
use Rattle.masks.proofs.Spanned.{Spanned, spanned_zero, reduced_spanned, spanned_reduced}

-- without masks every slot is empty
abbrev empty_slots : List ℕ
empty_slots = replicate 58 0

pub none_empty : (k : ℕ) → get_or empty_slots k 0 ≡ 0
none_empty k =
    ⊎_elim
    (λ (h : k < 58). get_or-replicate 58 k 0 0 h)
    (λ (h : 58 ≤ k). get_or_past empty_slots k 0 (omega (arith, length-replicate {A = ℕ} 58 0)))
    (cases_lt k 58)

none_spanned : (k m : ℕ) → Spanned empty_slots k m → m ≡ 0
unfolding Spanned
none_spanned zero m g = g
none_spanned (suc k) m (inl g) = none_spanned k m g
none_spanned (suc k) m (inr g) = sym (ap (bit_xor m) (none_empty k) ∙ xor_zero_r m) ∙ none_spanned k (bit_xor m (get_or empty_slots k 0)) g

pub basis_good : (ms : List ℕ) → small ms ≡ true → Good (basis_of ms)
unfolding basis_of
basis_good [] e = record { shaped = λ k n. absurd (n (none_empty k)); long = length-replicate {A = ℕ} 58 0 }
basis_good (m ∷ ms) e = let p = and_parts _ _ e in added_good (basis_of ms) (basis_good ms p.1) m (ltb-true m (2 ^ 58) p.0)

sums_spanned : (steps : List MaskStep) → small (masks_of steps) ≡ true → (m : ℕ) → Decides (is_sum (facts_of steps) m) (Spanned (basis_of (masks_of steps)) 58 m)
unfolding basis_of
sums_spanned [] e m = Decides-like _ (λ z. subst (Spanned empty_slots 58) (sym z) (spanned_zero empty_slots 58)) (none_spanned 58 m) (Decides-eqb m 0)
sums_spanned (s ∷ steps) e m =
    let p = and_parts _ _ e in
    let b = basis_of (masks_of steps) in
    let a = added_spans b (basis_good (masks_of steps) p.1) s.mask (ltb-true s.mask (2 ^ 58) p.0) m in
    let sums = facts_of steps in
    subst (λ x. Decides (is_sum sums m || is_sum sums (bit_xor m x)) (Spanned (basis_of (s.mask ∷ masks_of steps)) 58 m)) (sym (div-add-mod' s.mask (2 ^ 29)))
    (Decides-like _ a.1 a.0 (Decides-or _ _ (sums_spanned steps p.1 m) (sums_spanned steps p.1 (bit_xor m s.mask))))

pub spans : (steps : List MaskStep) → small (masks_of steps) ≡ true → (m : ℕ) → is_sum (facts_of steps) m ≡ eqb (reduced (basis_of (masks_of steps)) 58 m) 0
spans steps e m =
    let b = basis_of (masks_of steps) in
    same_from_decides _ _ (sums_spanned steps e m) (Decides-like _ (reduced_spanned b 58 m) (spanned_reduced b (basis_good (masks_of steps) e).shaped 58 m) (Decides-eqb (reduced b 58 m) 0))
