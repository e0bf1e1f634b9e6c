-- The bytes of the lines that tell the answers to a book's questions, or a refusal, and what a lent table of bytes holds after them.
-- Numbers are decimal without leading zeros, and each line ends with byte 10.
use Rattle.std.specs.Prelude.{ℕ, suc, ◌+◌, ◌-◌, cond, List, [], ◌∷◌, ◌++◌, length, take, drop, Some, None, Ok, Err, codes, decimal, Option, Result, nat_le}
use Rattle.listing.specs.declared.answers.ListingRefusal.{ListingRefusal}
use Rattle.listing.specs.declared.answers.ListingRefusal.TheVariants.{TooShort}

-- two numbers, each behind a text, and the end of the line
abbrev pub two_numbers : List ℕ → ℕ → List ℕ → ℕ → List ℕ
two_numbers s m t n = s ++ (decimal m ++ (t ++ (decimal n ++ codes "\n")))

-- a question's number and its answer
abbrev pub answer_line : ℕ → ℕ → List ℕ
answer_line q a = two_numbers [] q (codes " ") a

-- the lines of some answers, of which the first is to question q
abbrev pub lines_from : ℕ → List ℕ → List ℕ
lines_from q [] = []
lines_from q (a ∷ rest) = answer_line q a ++ lines_from (suc q) rest

-- how many facts were added, and how many were alive at once
abbrev pub tally_lines : ℕ → ℕ → List ℕ
tally_lines n d = two_numbers (codes "additions ") n (codes "\ndeepest ") d

-- the whole listing of the answers to a book's questions, in their order
abbrev pub answer_lines : List ℕ → ℕ → ℕ → List ℕ
answer_lines xs n d = lines_from 0 xs ++ tally_lines n d

-- the number of a refusal, and the place that it names
abbrev pub refused_text : ℕ → ℕ → List ℕ
refused_text n p = two_numbers (codes "refused ") n (codes " at ") p

-- what writing a text into a table answers: its length, or a refusal where the table is too short
abbrev pub written_result : List ℕ → List ℕ → Result ℕ ListingRefusal
written_result text old = cond (nat_le (length text) (length old)) (Ok (length text)) (Err TooShort)

-- what the table then holds: the text and the old bytes behind it, or all the old bytes
abbrev pub written_table : List ℕ → List ℕ → List ℕ
written_table text old = cond (nat_le (length text) (length old)) (text ++ drop (length text) old) old

-- a table after a text is written from a place on
unfoldable pub written_at : ℕ → List ℕ → List ℕ → List ℕ
written_at place text old = take place old ++ (text ++ drop (place + length text) old)

-- how many bytes of so much room a text leaves free
abbrev pub room_left : List ℕ → ℕ → Option ℕ
room_left text room = cond (nat_le (length text) room) (Some (room - length text)) None
