-- The masks that slots span, and what the reduction leaves: nothing of these, and of any other mask a mask of an empty slot.
use Rattle.std.proofs.Common.{◌≡◌, ℕ, zero, suc, ◌^◌, ◌<◌, ◌≤◌, ◌≢◌, ◌⊎◌, List, get_or, sym, refl, ap, ◌∙◌, subst, inl, inr, ⊎_elim, pow-suc, arith, pow_pos, pow_mono}
use lib.Bits.{bit_xor, xor_assoc, xor_self, xor_zero_r, xor_lt}
use Rattle.std.proofs.lemmas.Bool.{cases_lt, cond-true, lt-ltb}
use Rattle.masks.specs.Reducing.{reduced, Shaped}
use Rattle.masks.proofs.Highest.{xor_back, xor_turn, xor_cancel, xor_below, xor_above}

module _ (b : List ℕ) where
  abbrev at : ℕ → ℕ
  at k = get_or b k 0

  -- an exclusive or of some of the first k slots
  unfoldable pub Spanned : ℕ → ℕ → Type 0
  Spanned zero m = m ≡ 0
  Spanned (suc k) m = Spanned k m ⊎ Spanned k (bit_xor m (get_or b k 0))

  pub spanned_zero : (k : ℕ) → Spanned k 0
  unfolding Spanned
  spanned_zero zero = refl
  spanned_zero (suc k) = inl (spanned_zero k)

  pub spanned_xor : (k m n : ℕ) → Spanned k m → Spanned k n → Spanned k (bit_xor m n)
  unfolding Spanned
  spanned_xor zero m n g h = λ i. bit_xor (g i) (h i)
  spanned_xor (suc k) m n (inl g) (inl h) = inl (spanned_xor k m n g h)
  spanned_xor (suc k) m n (inl g) (inr h) = inr (subst (Spanned k) (sym (xor_assoc m n (at k))) (spanned_xor k m (bit_xor n (at k)) g h))
  spanned_xor (suc k) m n (inr g) (inl h) = inr (subst (Spanned k) (xor_turn m (at k) n) (spanned_xor k (bit_xor m (at k)) n g h))
  spanned_xor (suc k) m n (inr g) (inr h) = inl (subst (Spanned k) (xor_cancel m n (at k)) (spanned_xor k (bit_xor m (at k)) (bit_xor n (at k)) g h))

  start : (m : ℕ) → reduced b 0 m ≡ m
  unfolding reduced
  start m = refl

  -- a mask and what is left of it differ by a spanned mask
  rest_step : (k m : ℕ) → Spanned k (bit_xor m (reduced b k m)) → Spanned k (bit_xor (bit_xor m (at k)) (reduced b k (bit_xor m (at k)))) → Spanned (suc k) (bit_xor m (reduced b (suc k) m))
  unfolding Spanned reduced
  rest_step k m p q = grind (arith, xor_turn m (at k) (reduced b k (bit_xor m (at k))), xor_self m, spanned_zero (suc k))

  pub rest_spanned : (k m : ℕ) → Spanned k (bit_xor m (reduced b k m))
  unfolding Spanned
  rest_spanned zero m = ap (bit_xor m) (start m) ∙ xor_self m
  rest_spanned (suc k) m = rest_step k m (rest_spanned k m) (rest_spanned k (bit_xor m (at k)))

  pub reduced_spanned : (k m : ℕ) → reduced b k m ≡ 0 → Spanned k m
  reduced_spanned k m e = subst (Spanned k) (ap (bit_xor m) e ∙ xor_zero_r m) (rest_spanned k m)

  -- bits above the highest do not count
  low : (k m : ℕ) → m < 2 ^ k → reduced b (suc k) m ≡ reduced b k m
  unfolding reduced
  low k m h = cond-true _ _ _ (lt-ltb m (2 ^ k) h)

  above : (n k m : ℕ) → k ≤ n → m < 2 ^ k → reduced b n m ≡ reduced b k m
  above zero k m h l = let z : 0 ≡ k = omega arith in ap (λ x. reduced b x m) z
  above (suc n) k m h l =
      ⊎_elim
      (λ (lt : k < suc n). let le : k ≤ n = omega arith in low n m (omega (arith, pow_mono le)) ∙ above n k m le l)
      (λ (ge : suc n ≤ k). let z : suc n ≡ k = omega arith in ap (λ x. reduced b x m) z)
      (cases_lt k (suc n))

  module _ (s : Shaped b) where
    lt_step : (k m : ℕ) → (bit_xor m (at k) < 2 ^ k) → m < 2 ^ suc k
    lt_step k m l = grind (arith, pow-suc 2 k, s k, pow_pos k, xor_lt (suc k) (bit_xor m (at k)) (at k), xor_back m (at k))

    spanned_lt : (k m : ℕ) → Spanned k m → m < 2 ^ k
    unfolding Spanned
    spanned_lt zero m g = omega (arith, g)
    spanned_lt (suc k) m (inl g) = omega (arith, spanned_lt k m g, pow-suc 2 k)
    spanned_lt (suc k) m (inr g) = lt_step k m (spanned_lt k (bit_xor m (at k)) g)

    spanned_step : (k m : ℕ) → ((n : ℕ) → Spanned k n → reduced b k n ≡ 0) → Spanned (suc k) m → reduced b (suc k) m ≡ 0
    unfolding Spanned reduced
    spanned_step k m more g = grind (arith, more m, more (bit_xor m (at k)), spanned_lt k m, spanned_lt k (bit_xor m (at k)), xor_above k m (at k), s k, xor_zero_r m)

    pub spanned_reduced : (k m : ℕ) → Spanned k m → reduced b k m ≡ 0
    unfolding Spanned
    spanned_reduced zero m g = start m ∙ g
    spanned_reduced (suc k) m g = spanned_step k m (spanned_reduced k) g

    -- what is left is nothing, or its highest bit has an empty slot
    pub record Free (k r : ℕ) : Type 0 where
      pub place : ℕ
      pub within : place < k
      pub bounds : (2 ^ place ≤ r) × (r < 2 ^ suc place)
      pub empty : get_or b place 0 ≡ 0

    abbrev Left : ℕ → ℕ → Type 0
    Left k r = (r ≡ 0) ⊎ Free k r

    wider : (k r : ℕ) → Left k r → Left (suc k) r
    wider k r (inl z) = inl z
    wider k r (inr f) = inr (record { place = f.place; within = omega (arith, f.within); bounds = f.bounds; empty = f.empty })

    -- a bit of a mask: it is not set, or it is above an empty slot, or above a full one
    abbrev Bit : ℕ → ℕ → Type 0
    Bit k m = ((m < 2 ^ k) × (reduced b (suc k) m ≡ reduced b k m)) ⊎ (((2 ^ k ≤ m) × (at k ≡ 0) × (reduced b (suc k) m ≡ m)) ⊎ ((2 ^ k ≤ m) × (at k ≢ 0) × (reduced b (suc k) m ≡ reduced b k (bit_xor m (at k)))))

    bit : (k m : ℕ) → Bit k m
    unfolding reduced
    bit k m = grind arith

    free_step : (k m : ℕ) → m < 2 ^ suc k → ((n : ℕ) → n < 2 ^ k → Left (suc k) (reduced b k n)) → Bit k m → Left (suc k) (reduced b (suc k) m)
    free_step k m u more (inl p) = subst (Left (suc k)) (sym p.1) (more m p.0)
    free_step k m u more (inr (inl p)) = subst (Left (suc k)) (sym p.2) (inr (record { place = k; within = omega arith; bounds = (p.0, u); empty = p.1 }))
    free_step k m u more (inr (inr p)) = subst (Left (suc k)) (sym p.2) (more (bit_xor m (at k)) (xor_below k m (at k) (p.0, u) (s k p.1)))

    pub rest_free : (k m : ℕ) → m < 2 ^ k → (reduced b k m ≡ 0) ⊎ Free k (reduced b k m)
    rest_free zero m u = inl (omega (arith, start m))
    rest_free (suc k) m u = free_step k m u (λ n l. wider k (reduced b k n) (rest_free k n l)) (bit k m)

    -- the reduction of a mask by the slot of its highest bit
    module _ (t m : ℕ) (within : t < 58) (bounds : (2 ^ t ≤ m) × (m < 2 ^ suc t)) where
      pub stop : get_or b t 0 ≡ 0 → reduced b 58 m ≡ m
      unfolding reduced
      stop z = above 58 (suc t) m (omega arith) bounds.1 ∙ grind arith

      pub turn : get_or b t 0 ≢ 0 → reduced b 58 m ≡ reduced b 58 (bit_xor m (get_or b t 0))
      unfolding reduced
      turn n =
          above 58 (suc t) m (omega arith) bounds.1 ∙ grind arith ∙ sym (above 58 t (bit_xor m (at t)) (omega arith) (xor_below t m (at t) bounds (s t n)))
