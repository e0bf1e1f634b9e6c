-- Rows of answers, and the facts that saved prizes stand for.
use Rattle.std.specs.Prelude.{◌≡◌, ℕ, ◌-◌, ◌<◌, List, [], map, length, drop, slice_index, slice_index_or}
use Rattle.std.specs.List.{range_with_len}
use Rattle.undoable.specs.declared.facts.Fact.{Fact}
use Rattle.prizes.specs.declared.lines.Prize.{Prize}
use Rattle.prizes.specs.Rule.{with_most, fewest}

-- the answers for the payouts 0 to 1,000
abbrev pub row_of : List Fact → List ℕ
row_of fs = map (fewest fs) (range_with_len 0 1001)

-- the row with one prize line more, worked out from the row without it
abbrev pub row_with : Prize → List ℕ → List ℕ
row_with p row = map (λ v. with_most p.amount (λ w. slice_index row w) v p.copies) (range_with_len 0 1001)

-- row number i of some rows has the answers for the i oldest facts
abbrev pub AreSaved : List Fact → List (List ℕ) → Type 0
AreSaved fs rows = (i : ℕ) → i < length fs → slice_index_or rows i [] ≡ row_of (drop (length fs - i) fs)

abbrev pub fact_of : Prize → Fact
fact_of p = record { first = p.amount; second = p.copies }

abbrev pub prize_of : Fact → Prize
prize_of f = record { amount = f.first; copies = f.second }

abbrev pub facts_of : List Prize → List Fact
facts_of ps = map fact_of ps
