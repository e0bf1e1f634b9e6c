-- The 32-bit words of a record. Bits 31 to 29 of a word are its kind, bits 28 to 0 its payload.
-- A head word has kind 1 (fact), 2 (withdrawal) or 3 (question) and carries `first`; a second word has kind 4 and carries `second`.
use Rattle.std.specs.Prelude.{ℕ, ◌+◌, ◌*◌, ◌/◌, ◌%◌, ◌^◌, Bool, cond, ◌&&◌, List, [], ◌∷◌, ◌==◌, nat_le}
use Rattle.book.specs.declared.records.Record.{Record}
use Rattle.book.specs.declared.records.Record.TheVariants as is

abbrev pub tag_of : Record → ℕ
tag_of (is.Fact f) = 1
tag_of (is.Withdrawal f) = 2
tag_of (is.Question q) = 3

abbrev pub first_of : Record → ℕ
first_of (is.Fact f) = f.first
first_of (is.Withdrawal f) = f.first
first_of (is.Question q) = q.first

abbrev pub second_of : Record → ℕ
second_of (is.Fact f) = f.second
second_of (is.Withdrawal f) = f.second
second_of (is.Question q) = q.second

abbrev pub head_word_of : Record → ℕ
head_word_of r = tag_of r * 2 ^ 29 + first_of r

abbrev pub second_word_of : Record → ℕ
second_word_of r = 4 * 2 ^ 29 + second_of r

-- the words that a list of records writes
abbrev pub writes : List Record → List ℕ
writes [] = []
writes (r ∷ rs) = head_word_of r ∷ (second_word_of r ∷ writes rs)

abbrev pub kind_of : ℕ → ℕ
kind_of w = w / 2 ^ 29

abbrev pub payload_in : ℕ → ℕ
payload_in w = w % 2 ^ 29

abbrev pub is_head : ℕ → Bool
is_head w = nat_le 1 (kind_of w) && nat_le (kind_of w) 3

abbrev pub is_second : ℕ → Bool
is_second w = kind_of w == 4

abbrev pub record_with : ℕ → ℕ → ℕ → Record
record_with k a b = cond (k == 1) (is.Fact (record { first = a; second = b })) (cond (k == 2) (is.Withdrawal (record { first = a; second = b })) (is.Question (record { first = a; second = b })))

-- the record of a head word and a second word
abbrev pub record_in : ℕ → ℕ → Record
record_in h s = record_with (kind_of h) (payload_in h) (payload_in s)

-- words, two by two, as records
abbrev pub reads : List ℕ → List Record
reads [] = []
reads (h ∷ []) = []
reads (h ∷ (s ∷ ws)) = record_in h s ∷ reads ws
