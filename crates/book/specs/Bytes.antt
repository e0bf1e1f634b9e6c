-- The words of a byte stream: four bytes each, the least first. One to three bytes left over are dropped.
use Rattle.std.specs.Prelude.{ℕ, ◌+◌, ◌*◌, List, [], ◌∷◌}

abbrev pub words_in : List ℕ → List ℕ
words_in [] = []
words_in (a ∷ []) = []
words_in (a ∷ (b ∷ [])) = []
words_in (a ∷ (b ∷ (c ∷ []))) = []
words_in (a ∷ (b ∷ (c ∷ (d ∷ bs)))) = (a + b * 256 + c * 65536 + d * 16777216) ∷ words_in bs
