-- The lines from a question on begin with its own.
use Rattle.std.proofs.Common.{◌≡◌, ℕ, ◌+◌, ◌<◌, ◌≤◌, List, [], ◌++◌, length, get_or, drop, sym, ap, ◌∙◌, add-one}
use Rattle.std.proofs.lemmas.List.{length-append, drop_more, drop_all}
use Rattle.listing.specs.Answers.{answer_line, lines_from}

pub line_first : (xs : List ℕ) (q : ℕ) → q < length xs → lines_from q (drop q xs) ≡ answer_line q (get_or xs q 0) ++ lines_from (q + 1) (drop (q + 1) xs)
line_first xs q h = ap (lines_from q) (drop_more xs q 0 h) ∙ ap (λ k. answer_line q (get_or xs q 0) ++ lines_from k (drop (q + 1) xs)) (sym (add-one q))

pub length_first : (xs : List ℕ) (q : ℕ) → q < length xs → length (lines_from q (drop q xs)) ≡ length (answer_line q (get_or xs q 0)) + length (lines_from (q + 1) (drop (q + 1) xs))
length_first xs q h = ap length (line_first xs q h) ∙ length-append (answer_line q (get_or xs q 0)) (lines_from (q + 1) (drop (q + 1) xs))

pub none_ahead : (xs : List ℕ) (q : ℕ) → length xs ≤ q → lines_from q (drop q xs) ≡ []
none_ahead xs q h = ap (lines_from q) (drop_all q xs h)

pub ruleset ahead = (line_first, length_first, none_ahead)
