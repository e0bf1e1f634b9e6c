-- The words of some bytes, four bytes each.
use Rattle.std.proofs.Common.{◌≡◌, ℕ, suc, ◌+◌, ◌*◌, ◌/◌, List, [], ◌∷◌, length, map, w32, refl, ap, ◌∙◌, arith}
use Rattle.std.specs.Int.{from_le_bytes}
use Rattle.std.specs.Simd.{first_chunks}
use Rattle.book.specs.Bytes.{words_in}

abbrev pub quads : List ℕ → List (List ℕ)
quads bs = first_chunks 4 (length bs / 4) bs

pub words_quads : (bs : List ℕ) → map (from_le_bytes w32) (quads bs) ≡ words_in bs
words_quads [] = refl
words_quads (a ∷ []) = refl
words_quads (a ∷ (b ∷ [])) = refl
words_quads (a ∷ (b ∷ (c ∷ []))) = refl
words_quads (a ∷ (b ∷ (c ∷ (d ∷ bs)))) =
    let more : suc (suc (suc (suc (length bs)))) / 4 ≡ suc (length bs / 4) = omega arith in
    ap (λ n. map (from_le_bytes w32) (first_chunks 4 n (a ∷ (b ∷ (c ∷ (d ∷ bs)))))) more ∙ ap (λ ws. (a + b * 256 + c * 65536 + d * 16777216) ∷ ws) (words_quads bs)
