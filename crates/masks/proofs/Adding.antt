-- A mask added to a basis: it spans what it spanned, and the exclusive or of that with the mask.
use Rattle.std.proofs.Common.{◌≡◌, ℕ, zero, suc, ◌^◌, ◌<◌, ◌≤◌, ◌≢◌, Bool, cond, ◌⊎◌, List, length, get_or, set, IfSome, Some, None, Option, sym, refl, ap, ◌∙◌, subst, inl, inr, ⊎_elim, arith, pow_pos}
use lib.Bits.{bit_xor, xor_comm, xor_self, xor_zero_r}
use Rattle.std.proofs.lemmas.List.{get_or-set_same, get_or-set_other, length-set, set-set, set-get_or}
use Rattle.std.proofs.lemmas.Bool.{cases_eq, eq-eqb, ne_eqb}
use Rattle.masks.specs.Reducing.{reduced, slot_of, added, slot_for, cleared, Shaped}
use Rattle.masks.proofs.Highest.{xor_back, xor_turn, xor_cancel, slot_is}
use Rattle.masks.proofs.Spanned.{Spanned, spanned_zero, spanned_xor, rest_spanned, Free, rest_free}

-- a mask in a slot that was empty
module _ (b : List ℕ) (t r : ℕ) (free : get_or b t 0 ≡ 0) (long : t < length b) where
  abbrev at : ℕ → ℕ
  at k = get_or b k 0

  abbrev new : List ℕ
  new = set b t r

  here : get_or new t 0 ≡ r
  here = get_or-set_same b t r 0 long

  other : (k : ℕ) → k ≢ t → get_or new k 0 ≡ at k
  other k n = get_or-set_other b t k r 0 n

  pub put_shaped : Shaped b → (2 ^ t ≤ r) × (r < 2 ^ suc t) → Shaped (set b t r)
  put_shaped s top k n = grind (arith, cases_eq k t, here, other k, s k)

  put_keeps : (k m : ℕ) → Spanned b k m → Spanned new k m
  unfolding Spanned
  put_keeps zero m g = g
  put_keeps (suc k) m (inl g) = inl (put_keeps k m g)
  put_keeps (suc k) m (inr g) =
      ⊎_elim
      (λ (e : k ≡ t). inl (put_keeps k m (subst (Spanned b k) (ap (bit_xor m) (ap at e ∙ free) ∙ xor_zero_r m) g)))
      (λ (n : k ≢ t). inr (subst (λ x. Spanned new k (bit_xor m x)) (sym (other k n)) (put_keeps k (bit_xor m (at k)) g)))
      (cases_eq k t)

  put_spans : (k : ℕ) → t < k → Spanned new k r
  unfolding Spanned
  put_spans zero l = absurd (omega arith)
  put_spans (suc k) l =
      ⊎_elim
      (λ (e : k ≡ t). inr (subst (Spanned new k) (sym (ap (bit_xor r) (ap (λ x. get_or new x 0) e ∙ here) ∙ xor_self r)) (spanned_zero new k)))
      (λ (n : k ≢ t). inl (put_spans k (omega arith)))
      (cases_eq k t)

  -- the mask is used, or it is not
  used_step : (k m : ℕ) → ((n : ℕ) → Spanned new k n → Spanned b k n ⊎ Spanned b k (bit_xor n r)) → Spanned new (suc k) m → Spanned b (suc k) m ⊎ Spanned b (suc k) (bit_xor m r)
  unfolding Spanned
  used_step k m more g = grind (arith, cases_eq k t, here, other k, more m, more (bit_xor m (get_or new k 0)), xor_back m r, xor_turn m (at k) r)

  put_used : (k m : ℕ) → Spanned new k m → Spanned b k m ⊎ Spanned b k (bit_xor m r)
  unfolding Spanned
  put_used zero m g = inl g
  put_used (suc k) m g = used_step k m (put_used k) g

-- every full slot holds a mask of that slot, and there are 58 slots
pub record Good (b : List ℕ) : Type 0 where
  pub shaped : Shaped b
  pub long : length b ≡ 58

module _ (b : List ℕ) (good : Good b) (f : ℕ) (h : f < 2 ^ 58) where
  abbrev r : ℕ
  r = reduced b 58 f

  abbrev slot : ℕ
  slot = slot_of r

  -- what is left has a slot, which is empty
  record Left : Type 0 where
    within : slot < 58
    bounds : (2 ^ slot ≤ r) × (r < 2 ^ suc slot)
    free : get_or b slot 0 ≡ 0

  left_free : Free b good.shaped 58 r → Left
  left_free f =
      let is : slot_of r ≡ f.place = slot_is f.place r (omega (arith, f.within)) f.bounds.0 f.bounds.1 in
      record {
        within = subst (λ k. k < 58) (sym is) f.within;
        bounds = subst (λ k. (2 ^ k ≤ r) × (r < 2 ^ suc k)) (sym is) f.bounds;
        free = ap (λ k. get_or b k 0) is ∙ f.empty;
      }

  -- by whether anything is left: the new basis, and the slot that is filled
  abbrev by_test : (List ℕ → Option ℕ → Type 0) → Bool → Type 0
  by_test P t = P (cond t b (set b slot r)) (cond t None (Some slot))

  by_left : (P : List ℕ → Option ℕ → Type 0) → (r ≡ 0 → P b None) → (Left → P (set b slot r) (Some slot)) → P (added b f) (slot_for b f)
  by_left P u v =
      ⊎_elim
      (λ (z : r ≡ 0). subst (by_test P) (sym (eq-eqb r 0 z)) (u z))
      (λ (p : Free b good.shaped 58 r). let l = left_free p in subst (by_test P) (sym (ne_eqb r 0 (λ z. omega (arith, pow_pos slot, l.bounds.0)))) (v l))
      (rest_free b good.shaped 58 f h)

  pub added_good : Good (added b f)
  added_good =
      by_left (λ d o. Good d)
      (λ z. good)
      (λ l. record { shaped = put_shaped b slot r l.free (omega (arith, l.within, good.long)) good.shaped l.bounds; long = length-set b slot r ∙ good.long })

  -- a pop: the slot that the push filled is emptied
  pub slot_clears : IfSome (slot_for b f) (λ k. k < 58)
  slot_clears = by_left (λ d o. IfSome o (λ k. k < 58)) (λ z. tt) (λ l. l.within)

  pub added_cleared : cleared (added b f) (slot_for b f) ≡ b
  added_cleared = by_left (λ d o. cleared d o ≡ b) (λ z. refl) (λ l. set-set b slot r 0 ∙ ap (set b slot) (sym l.free) ∙ set-get_or b slot 0)

  -- what the new basis spans
  abbrev Either : ℕ → Type 0
  Either m = Spanned b 58 m ⊎ Spanned b 58 (bit_xor m f)

  -- with the mask or with what is left of it
  with_rest : (m : ℕ) → Spanned b 58 (bit_xor m f) → Spanned b 58 (bit_xor m r)
  with_rest m g = subst (Spanned b 58) (xor_cancel m r f) (spanned_xor b 58 (bit_xor m f) (bit_xor r f) g (subst (Spanned b 58) (xor_comm f r) (rest_spanned b 58 f)))

  with_mask : (m : ℕ) → Spanned b 58 (bit_xor m r) → Spanned b 58 (bit_xor m f)
  with_mask m g = subst (Spanned b 58) (xor_cancel m f r) (spanned_xor b 58 (bit_xor m r) (bit_xor f r) g (rest_spanned b 58 f))

  pub added_spans : (m : ℕ) → (Spanned (added b f) 58 m → Either m) × (Either m → Spanned (added b f) 58 m)
  added_spans m =
      by_left (λ d o. (Spanned d 58 m → Either m) × (Either m → Spanned d 58 m))
      (λ z. (
        (λ g. inl g),
        ⊎_elim (λ (g : Spanned b 58 m). g) (λ (g : Spanned b 58 (bit_xor m f)). subst (Spanned b 58) (ap (bit_xor m) z ∙ xor_zero_r m) (with_rest m g)),
      ))
      (λ l.
      let long : slot_of (reduced b 58 f) < length b = omega (arith, l.within, good.long) in
      let new = set b slot r in (
        λ g. ⊎_elim (λ (u : Spanned b 58 m). inl u) (λ (u : Spanned b 58 (bit_xor m r)). inr (with_mask m u)) (put_used b slot r l.free long 58 m g),
        ⊎_elim (λ (g : Spanned b 58 m). put_keeps b slot r l.free long 58 m g) (λ (g : Spanned b 58 (bit_xor m f)).
            subst (Spanned new 58) (xor_back m r) (spanned_xor new 58 (bit_xor m r) r (put_keeps b slot r l.free long 58 (bit_xor m r) (with_rest m g)) (put_spans b slot r l.free long 58 l.within))),
      ))
