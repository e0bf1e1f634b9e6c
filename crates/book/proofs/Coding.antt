-- Words and the records they stand for: reading undoes writing, and one more record is two more words.
use Rattle.std.proofs.Common.{◌≡◌, ℕ, zero, suc, ◌+◌, ◌*◌, ◌^◌, ◌<◌, ◌≤◌, Bool, true, false, cond, ◌≢◌, List, [], ◌∷◌, ◌++◌, length, get_or, take, drop, set, sym, refl, ap, ◌∙◌, add-one, arith}
use Rattle.std.proofs.lemmas.List.{length_push, length-set, take-set-le, take-set, get_or-set_other, get_or-set_same, take_more, append_assoc}
use Rattle.std.proofs.lemmas.Nat.{shr_high, mod_low}
use Rattle.std.proofs.lemmas.Bool.{ltb-true, and_parts}
use Rattle.book.specs.declared.records.Record.{Record}
use Rattle.book.specs.declared.records.Record.TheVariants as is
use Rattle.book.specs.Words.{writes, reads, record_in, head_word_of, second_word_of, first_of, second_of, tag_of, kind_of, payload_in, record_with}
use Rattle.book.specs.Rules.{fits}

-- a record comes back from its words
pub record_in-words : (r : Record) → fits r ≡ true → record_in (head_word_of r) (second_word_of r) ≡ r
record_in-words r h =
    let p = and_parts _ _ h in
    let a = ltb-true (first_of r) (2 ^ 29) p.0 in
    let b = ltb-true (second_of r) (2 ^ 29) p.1 in
    let k : kind_of (head_word_of r) ≡ tag_of r = shr_high (tag_of r) 29 (first_of r) a in
    let x : payload_in (head_word_of r) ≡ first_of r = mod_low (tag_of r) 29 (first_of r) a in
    let y : payload_in (second_word_of r) ≡ second_of r = mod_low 4 29 (second_of r) b in
    (λ i. record_with (k i) (x i) (y i)) ∙ whole r
  where
    whole : (r : Record) → record_with (tag_of r) (first_of r) (second_of r) ≡ r
    whole (is.Fact f) = refl
    whole (is.Withdrawal f) = refl
    whole (is.Question q) = refl

-- the first i + 1 records of some words
pub reads_more : (ws : List ℕ) (i : ℕ) → 2 * i + 1 < length ws → reads (take (2 * (i + 1)) ws) ≡ reads (take (2 * i) ws) ++ record_in (get_or ws (2 * i) 0) (get_or ws (2 * i + 1) 0) ∷ []
reads_more [] i h = absurd (omega arith)
reads_more (x ∷ []) i h = absurd (omega arith)
reads_more (x ∷ (y ∷ ws)) zero h = refl
reads_more (x ∷ (y ∷ ws)) (suc i) h =
    let a : 2 * (suc i + 1) ≡ suc (suc (2 * (i + 1))) = omega arith in
    let b : 2 * suc i + 1 ≡ suc (suc (2 * i + 1)) = omega arith in
    let c : 2 * suc i ≡ suc (suc (2 * i)) = omega arith in
    let lt : 2 * i + 1 < length ws = omega arith in
    rw (a, b, c) (ap (λ rs. record_in x y ∷ rs) (reads_more ws i lt))

pub length-reads : (ws : List ℕ) (n : ℕ) → 2 * n ≤ length ws → length (reads (take (2 * n) ws)) ≡ n
length-reads ws zero h = refl
length-reads ws (suc i) h =
    let lt : 2 * i + 1 < length ws = omega arith in
    let le : 2 * i ≤ length ws = omega arith in
    ap (λ n. length (reads (take (2 * n) ws))) (sym (add-one i)) ∙ ap length (reads_more ws i lt) ∙ length_push _ _ ∙ ap (λ n. n + 1) (length-reads ws i le) ∙ add-one i

-- the first records of some words, and those from number n on
pub reads-take : (n : ℕ) (ws : List ℕ) → reads (take (2 * n) ws) ≡ take n (reads ws)
reads-take zero ws = refl
reads-take (suc n) [] = let a : 2 * suc n ≡ suc (suc (2 * n)) = omega arith in rw a refl
reads-take (suc n) (x ∷ []) = let a : 2 * suc n ≡ suc (suc (2 * n)) = omega arith in rw a refl
reads-take (suc n) (x ∷ (y ∷ ws)) = let a : 2 * suc n ≡ suc (suc (2 * n)) = omega arith in rw a (ap (λ rs. record_in x y ∷ rs) (reads-take n ws))

pub reads-drop : (n : ℕ) (ws : List ℕ) → reads (drop (2 * n) ws) ≡ drop n (reads ws)
reads-drop zero ws = refl
reads-drop (suc n) [] = let a : 2 * suc n ≡ suc (suc (2 * n)) = omega arith in rw a refl
reads-drop (suc n) (x ∷ []) = let a : 2 * suc n ≡ suc (suc (2 * n)) = omega arith in rw a refl
reads-drop (suc n) (x ∷ (y ∷ ws)) = let a : 2 * suc n ≡ suc (suc (2 * n)) = omega arith in rw a (reads-drop n ws)

pub cond_small : (b : Bool) → cond b 1 0 ≤ 1
cond_small true = omega arith
cond_small false = omega arith

pub length-writes : (rs : List Record) → length (writes rs) ≡ 2 * length rs
length-writes [] = refl
length-writes (r ∷ rs) = omega (arith, length-writes rs)

pub writes-append : (rs qs : List Record) → writes (rs ++ qs) ≡ writes rs ++ writes qs
writes-append [] qs = refl
writes-append (r ∷ rs) qs = ap (λ ws. head_word_of r ∷ (second_word_of r ∷ ws)) (writes-append rs qs)

-- some words once a record is written behind n others
abbrev pub written : List ℕ → ℕ → Record → List ℕ
written ws n r = set (set ws (2 * n) (head_word_of r)) (2 * n + 1) (second_word_of r)

module _ (ws : List ℕ) (n : ℕ) (r : Record) (room : 2 * n + 1 < length ws) (fit : fits r ≡ true) where
  pub written_front : take (2 * n) (written ws n r) ≡ take (2 * n) ws
  written_front = let a : 2 * n ≤ 2 * n + 1 = omega arith in take-set-le (2 * n) (set ws (2 * n) (head_word_of r)) (2 * n + 1) (second_word_of r) a ∙ take-set ws (2 * n) (head_word_of r)

  pub written_head : get_or (written ws n r) (2 * n) 0 ≡ head_word_of r
  written_head =
      let ne : 2 * n ≢ 2 * n + 1 = omega arith in
      let lt : 2 * n < length ws = omega arith in
      get_or-set_other (set ws (2 * n) (head_word_of r)) (2 * n + 1) (2 * n) (second_word_of r) 0 ne ∙ get_or-set_same ws (2 * n) (head_word_of r) 0 lt

  pub written_second : get_or (written ws n r) (2 * n + 1) 0 ≡ second_word_of r
  written_second =
      let lt : 2 * n + 1 < length (set ws (2 * n) (head_word_of r)) = rw length-set room in
      get_or-set_same (set ws (2 * n) (head_word_of r)) (2 * n + 1) (second_word_of r) 0 lt

  pub written_room : 2 * n + 1 < length (written ws n r)
  written_room = simp length-set room

  pub written_reads : reads (take (2 * (n + 1)) (written ws n r)) ≡ reads (take (2 * n) ws) ++ r ∷ []
  written_reads =
      reads_more (written ws n r) n written_room
      ∙ (λ i. reads (written_front i) ++ record_in (written_head i) (written_second i) ∷ [])
      ∙ ap (λ x. reads (take (2 * n) ws) ++ x ∷ []) (record_in-words r fit)

  pub written_words : writes (reads (take (2 * n) ws)) ≡ take (2 * n) ws → take (2 * (n + 1)) (written ws n r) ≡ writes (reads (take (2 * n) ws) ++ r ∷ [])
  written_words w =
      let a : 2 * (n + 1) ≡ 2 * n + 1 + 1 = omega arith in
      let b : 2 * n < length (written ws n r) = omega (arith, written_room) in
      ap (λ k. take k (written ws n r)) a
      ∙ take_more (written ws n r) (2 * n + 1) 0 written_room
      ∙ ap (λ l. l ++ get_or (written ws n r) (2 * n + 1) 0 ∷ []) (take_more (written ws n r) (2 * n) 0 b)
      ∙ (λ i. (written_front i ++ written_head i ∷ []) ++ written_second i ∷ [])
      ∙ append_assoc (take (2 * n) ws) (head_word_of r ∷ []) (second_word_of r ∷ [])
      ∙ ap (λ l. l ++ head_word_of r ∷ (second_word_of r ∷ [])) (sym w)
      ∙ sym (writes-append (reads (take (2 * n) ws)) (r ∷ []))
