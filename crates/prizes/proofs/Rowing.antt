-- Rows of answers: their entries, one prize more, and the rows below another.
use Rattle.std.proofs.Common.{◌≡◌, ℕ, zero, suc, ◌+◌, ◌-◌, ◌*◌, ◌<◌, ◌≤◌, min, cond, leb, List, ◌∷◌, map, get_or, sym, ap, ◌∙◌, arith}
use Rattle.std.specs.List.{range_with_len}
use Rattle.std.proofs.lemmas.List.FromFn.{length-map-range_with_len, get_or-map-range_with_len}
use Rattle.std.proofs.lemmas.List.{ext_get_or}
use Rattle.undoable.specs.declared.facts.Fact.{Fact}
use Rattle.prizes.specs.declared.lines.Prize.{Prize}
use Rattle.prizes.specs.Rule.{with_some, with_most, fewest}
use Rattle.prizes.specs.Saved.{row_of, row_with, fact_of}

pub row_entry : (fs : List Fact) (v : ℕ) → v < 1001 → get_or (row_of fs) v 0 ≡ fewest fs v
row_entry fs v h = get_or-map-range_with_len (fewest fs) 0 1001 v v 0 h (omega arith)

-- only the answers for smaller payouts count
module _ (a : ℕ) (r s : ℕ → ℕ) (v : ℕ) (same : (w : ℕ) → w ≤ v → r w ≡ s w) where
  some_same : (k : ℕ) → with_some a r v k ≡ with_some a s v k
  some_same k = ap (λ x. cond (leb (k * a) v) (min (k + x) 1001) 1001) (same (v - k * a) (omega arith))

  most_same : (n : ℕ) → with_most a r v n ≡ with_most a s v n
  most_same zero = some_same 0
  most_same (suc n) = λ i. min (most_same n i) (some_same (suc n) i)

-- the row that is worked out from the row of the other facts
pub row_more : (p : Prize) (fs : List Fact) (row : List ℕ) → row ≡ row_of fs → row_with p row ≡ row_of (fact_of p ∷ fs)
row_more p fs row e =
    let g : ℕ → ℕ = λ v. with_most p.amount (λ w. get_or row w 0) v p.copies in
    ext_get_or 0 (map g (range_with_len 0 1001)) (row_of (fact_of p ∷ fs))
    (length-map-range_with_len g 0 1001 ∙ sym (length-map-range_with_len (fewest (fact_of p ∷ fs)) 0 1001))
    (λ v h.
    let lt : v < 1001 = omega (arith, length-map-range_with_len g 0 1001) in
    get_or-map-range_with_len g 0 1001 v v 0 lt (omega arith)
    ∙ most_same p.amount (λ w. get_or row w 0) (fewest fs) v (λ w le. ap (λ (l : List ℕ). get_or l w 0) e ∙ row_entry fs w (omega arith)) p.copies
    ∙ sym (row_entry (fact_of p ∷ fs) v lt))
