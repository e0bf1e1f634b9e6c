-- Exclusive or, and the highest bit of a mask.
use Rattle.std.proofs.Common.{◌≡◌, ℕ, suc, ◌-◌, ◌*◌, ◌^◌, ◌<◌, ◌≤◌, ⊎_elim, pow-suc, arith, pow_mono}
use lib.Bits.{bit_xor, xor_assoc, xor_comm, xor_self, xor_zero_r, xor_lt, xor_block}
use lib.Count.{leading_unique}
use Rattle.std.proofs.lemmas.Bool.{cases_lt}
use Rattle.masks.specs.Reducing.{slot_of}

ruleset xor_laws = (xor_assoc, xor_comm, xor_self, xor_zero_r)

-- the same mask twice is nothing
pub xor_again : (a b : ℕ) → bit_xor a (bit_xor a b) ≡ b
xor_again a b = grind (arith, xor_laws)

pub xor_back : (a b : ℕ) → bit_xor (bit_xor a b) b ≡ a
xor_back a b = grind (arith, xor_laws)

pub xor_turn : (a b c : ℕ) → bit_xor (bit_xor a b) c ≡ bit_xor (bit_xor a c) b
xor_turn a b c = grind (arith, xor_laws)

pub xor_cancel : (a b c : ℕ) → bit_xor (bit_xor a c) (bit_xor b c) ≡ bit_xor a b
xor_cancel a b c = grind (arith, xor_laws)

-- two masks of one slot leave a mask of a lower one
pub xor_below : (k a b : ℕ) → (2 ^ k ≤ a) × (a < 2 ^ suc k) → (2 ^ k ≤ b) × (b < 2 ^ suc k) → bit_xor a b < 2 ^ k
xor_below k a b p q = grind (arith, pow-suc 2 k, xor_block k 1 1 (a - 2 ^ k) (b - 2 ^ k), xor_lt k (a - 2 ^ k) (b - 2 ^ k))

-- a lower mask leaves the highest bit
pub xor_above : (k a b : ℕ) → a < 2 ^ k → 2 ^ k ≤ b → 2 ^ k ≤ bit_xor a b
xor_above k a b l h =
    ⊎_elim
    (λ (lt : bit_xor a b < 2 ^ k). absurd (omega (arith, xor_lt k a (bit_xor a b) l lt, xor_again a b)))
    (λ (le : 2 ^ k ≤ bit_xor a b). le)
    (cases_lt (bit_xor a b) (2 ^ k))

-- the slot of a mask is the place of its highest bit
pub slot_is : (k m : ℕ) → k < 64 → 2 ^ k ≤ m → m < 2 ^ suc k → slot_of m ≡ k
slot_is k m h l u =
    let two : 2 ^ suc k ≡ 2 ^ k * 2 = pow-suc 2 k in
    omega (arith, leading_unique 64 m (64 - suc k) (suc k) (omega arith) u (omega arith))

pub slot_within : (k m : ℕ) → 2 ^ k ≤ m → m < 2 ^ 58 → k < 58
slot_within k m l u = ⊎_elim (λ (h : k < 58). h) (λ (h : 58 ≤ k). absurd (omega (arith, pow_mono h))) (cases_lt k 58)
