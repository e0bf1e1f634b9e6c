-- A basis of masks and what it leaves of a mask, for private contracts. Masks that are listed stand newest first.
use Rattle.std.specs.Prelude.{ℕ, zero, suc, ◌-◌, ◌^◌, ◌<◌, ◌≤◌, Bool, true, cond, ◌&&◌, ◌≢◌, List, [], ◌∷◌, replicate, Some, None, Option, ◌==◌, bit_xor, nat_lt, slice_index, slice_set}
use Rattle.std.specs.Int.Count.{count_leading_zeros}

-- the slot of a mask: the place of its highest bit
abbrev pub slot_of : ℕ → ℕ
slot_of m = 63 - count_leading_zeros 64 m

-- what is left of a mask below 2 ^ k: from the highest bit down, the exclusive or with the slot of each bit that is set, as
-- far as these slots are full
unfoldable pub reduced : List ℕ → ℕ → ℕ → ℕ
reduced b zero m = m
reduced b (suc k) m = cond (nat_lt m (2 ^ k)) (reduced b k m) (cond (slice_index b k == 0) m (reduced b k (bit_xor m (slice_index b k))))

-- a basis with what it leaves of a mask added, and the slot which that fills
abbrev pub with_rest : List ℕ → ℕ → List ℕ
with_rest b r = cond (r == 0) b (slice_set b (slot_of r) r)

abbrev pub slot_filled : ℕ → Option ℕ
slot_filled r = cond (r == 0) None (Some (slot_of r))

-- what is left of a mask and its slot, if anything is left
abbrev pub left_of : List ℕ → ℕ → Option (ℕ × ℕ)
left_of b m = let r = reduced b 58 m in cond (r == 0) None (Some (slot_of r, r))

abbrev pub added : List ℕ → ℕ → List ℕ
added b m = with_rest b (reduced b 58 m)

abbrev pub slot_for : List ℕ → ℕ → Option ℕ
slot_for b m = slot_filled (reduced b 58 m)

-- the same slot emptied
abbrev pub cleared : List ℕ → Option ℕ → List ℕ
cleared b None = b
cleared b (Some k) = slice_set b k 0

-- the basis that masks make
unfoldable pub basis_of : List ℕ → List ℕ
basis_of [] = replicate 58 0
basis_of (m ∷ ms) = added (basis_of ms) m

-- every full slot holds a mask of that slot
abbrev pub Shaped : List ℕ → Type 0
Shaped b = (k : ℕ) → slice_index b k ≢ 0 → (2 ^ k ≤ slice_index b k) × (slice_index b k < 2 ^ suc k)

-- every mask has at most 58 bits
abbrev pub small : List ℕ → Bool
small [] = true
small (m ∷ ms) = nat_lt m (2 ^ 58) && small ms
