-- Masks: whether a mask is the exclusive or of some of the entries.
use Rattle.std.specs.Prelude.{◌≡◌, ℕ, ◌+◌, ◌*◌, ◌^◌, Bool, cond, ◌&&◌, ◌||◌, List, [], ◌∷◌, length, ◌==◌, bit_xor, nat_lt}
use Rattle.undoable.specs.declared.facts.Fact.{Fact}
use Rattle.undoable.specs.declared.facts.Question.{Question}
use Rattle.undoable.specs.Kinds.{Kind}

-- a mask has 58 bits: first is the upper 29, second the lower 29; a fact is a mask, and so is a question
abbrev pub mask_of : Fact → ℕ
mask_of f = f.first * 2 ^ 29 + f.second

abbrev pub asked_of : Question → ℕ
asked_of q = q.first * 2 ^ 29 + q.second

-- each field is at most 536,870,911
abbrev pub admits_mask : Fact → Bool
admits_mask f = nat_lt f.first (2 ^ 29) && nat_lt f.second (2 ^ 29)

abbrev pub asks_mask : Question → Bool
asks_mask q = nat_lt q.first (2 ^ 29) && nat_lt q.second (2 ^ 29)

-- a selection says of each entry whether it is taken; the exclusive or of those taken
abbrev pub chosen : List Fact → List Bool → ℕ
chosen [] bs = 0
chosen (f ∷ fs) [] = 0
chosen (f ∷ fs) (b ∷ bs) = bit_xor (cond b (mask_of f) 0) (chosen fs bs)

-- the answer rule, entry by entry; `SumsOfSelections` says what it comes to
abbrev pub is_sum : List Fact → ℕ → Bool
is_sum [] m = m == 0
is_sum (f ∷ fs) m = is_sum fs m || is_sum fs (bit_xor m (mask_of f))

-- the kind of a masks structure with room for c facts
abbrev pub masks_kind : ℕ → Kind
masks_kind c = record { capacity = c; admits = admits_mask; asks = asks_mask; rule = λ fs q. cond (is_sum fs (asked_of q)) 1 0 }

-- some selection of the entries has a mask as its exclusive or
abbrev pub SumOf : List Fact → ℕ → Type 0
SumOf fs m = (bs : List Bool) × (length bs ≡ length fs) × (chosen fs bs ≡ m)

-- the answer is 1 exactly if some selection has the mask as its exclusive or, and 0 exactly if none has
pub record Answers (fs : List Fact) (m n : ℕ) : Type 0 where
  pub one_has : n ≡ 1 → SumOf fs m
  pub has_one : SumOf fs m → n ≡ 1
  pub zero_lacks : n ≡ 0 → SumOf fs m → ⊥
  pub lacks_zero : (SumOf fs m → ⊥) → n ≡ 0

abbrev pub SumsOfSelections : Type 0
SumsOfSelections = (c : ℕ) (fs : List Fact) (q : Question) → Answers fs (asked_of q) ((masks_kind c).rule fs q)

-- the empty selection gives 0
abbrev pub ZeroIsSum : Type 0
ZeroIsSum = (c : ℕ) (fs : List Fact) (q : Question) → asked_of q ≡ 0 → (masks_kind c).rule fs q ≡ 1

-- answers worked by hand: the masks 12 and 10, asked for 6, 4 and 0
abbrev pub WorkedMasks : Type 0
WorkedMasks =
    let fs : List Fact = record { first = 0; second = 12 } ∷ (record { first = 0; second = 10 } ∷ []) in
    let asked : ℕ → Question = λ m. record { first = 0; second = m } in
    ((masks_kind 2).rule fs (asked 6) ≡ 1) × ((masks_kind 2).rule fs (asked 4) ≡ 0) × ((masks_kind 2).rule fs (asked 0) ≡ 1)
