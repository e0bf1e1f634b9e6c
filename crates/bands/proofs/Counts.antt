-- Counts of bands: a test that splits into two, and the one band with a number.
use Rattle.std.proofs.Common.{◌≡◌, ℕ, zero, suc, ◌+◌, ◌<◌, ◌≤◌, Bool, cond, eqb, count_by, List, [], ◌∷◌, refl, ap, ⊎_elim, arith}
use Rattle.std.specs.List.{range_with_len}
use Rattle.std.proofs.lemmas.List.FromFn.{length-range_with_len}
use Rattle.std.proofs.lemmas.List.Sums.{sum_by-cons, count_by-le-length}
use Rattle.std.proofs.lemmas.Bool.{cases_eq, eq-eqb, ne_eqb}

-- how many bands pass a test
unfoldable pub count_of : (ℕ → Bool) → ℕ
count_of p = count_by p (range_with_len 0 1024)

abbrev bit : Bool → ℕ
bit b = cond b 1 0

count-cons : (p : ℕ → Bool) (x : ℕ) (xs : List ℕ) → count_by p (x ∷ xs) ≡ bit (p x) + count_by p xs
count-cons p x xs = sum_by-cons (λ y. bit (p y)) x xs

split_in : (p q r : ℕ → Bool) → ((x : ℕ) → bit (p x) ≡ bit (q x) + bit (r x)) → (xs : List ℕ) → count_by p xs ≡ count_by q xs + count_by r xs
split_in p q r h [] = refl
split_in p q r h (x ∷ xs) = omega (arith, split_in p q r h xs, h x, count-cons p x xs, count-cons q x xs, count-cons r x xs)

pub count_split : (p q r : ℕ → Bool) → ((x : ℕ) → bit (p x) ≡ bit (q x) + bit (r x)) → count_of p ≡ count_of q + count_of r
unfolding count_of
count_split p q r h = split_in p q r h (range_with_len 0 1024)

most_from : (p : ℕ → Bool) (n : ℕ) → count_by p (range_with_len 0 n) ≤ n
most_from p n = omega (arith, count_by-le-length p (range_with_len 0 n), length-range_with_len 0 n)

pub count_most : (p : ℕ → Bool) → count_of p ≤ 1024
unfolding count_of
count_most p = most_from p 1024

-- from its number on a range holds a band once
none_from : (r a n : ℕ) → r < a → count_by (λ x. eqb x r) (range_with_len a n) ≡ 0
none_from r a zero h = refl
none_from r a (suc n) h =
    omega (arith, none_from r (a + 1) n (omega arith), ap bit (ne_eqb a r (λ e. omega arith)), count-cons (λ x. eqb x r) a (range_with_len (a + 1) n))

one_from : (r a n : ℕ) → a ≤ r → r < a + n → count_by (λ x. eqb x r) (range_with_len a n) ≡ 1
one_from r a zero l h = absurd (omega arith)
one_from r a (suc n) l h =
    let more = count-cons (λ x. eqb x r) a (range_with_len (a + 1) n) in
    ⊎_elim
    (λ (e : a ≡ r). omega (arith, none_from r (a + 1) n (omega arith), ap bit (eq-eqb a r e), more))
    (λ (e : a ≡ r → ⊥). omega (arith, one_from r (a + 1) n (omega arith) (omega arith), ap bit (ne_eqb a r e), more))
    (cases_eq a r)

pub count_one : (r : ℕ) → r < 1024 → count_of (λ x. eqb x r) ≡ 1
unfolding count_of
count_one r h = one_from r 0 1024 (omega arith) (omega arith)
