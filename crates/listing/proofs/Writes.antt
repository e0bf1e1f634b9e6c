-- A table after one text is written behind another.
use Rattle.std.proofs.Common.{◌≡◌, ℕ, ◌+◌, ◌-◌, ◌<◌, ◌≤◌, leb, List, [], ◌∷◌, ◌++◌, length, take, drop, set, Ok, Err, sym, ap, ◌∙◌, append_assoc, add-one, arith}
use borrow.Rule.Slice.PartMut.{put_mid}
use Rattle.std.proofs.lemmas.List.{length-append, length-take-le, take_at, take-append-drop, drop_at, drop-drop}
use Rattle.std.proofs.lemmas.Bool.{cond-true, le-leb}
use Rattle.listing.specs.Answers.{written_at, written_table}

-- a copy to the part from p on
pub copy_written : (p n : ℕ) (old ys text : List ℕ) → ys ≡ text → n ≡ length text → put_mid p ((p + n) - p) old ys ≡ written_at p text old
unfolding written_at
copy_written p n old ys text e m =
    let k : (p + n) - p ≡ n = omega arith in
    ap (λ l. take p old ++ (l ++ drop ((p + n) - p) (drop p old))) e
    ∙ ap (λ l. take p old ++ (text ++ l)) (drop-drop ((p + n) - p) p old ∙ ap (λ j. drop (p + j) old) (k ∙ m))

-- nothing
pub none_written : (p : ℕ) (old : List ℕ) → written_at p [] old ≡ old
unfolding written_at
none_written p old =
    let k : p + 0 ≡ p = omega arith in
    ap (λ m. take p old ++ drop m old) k ∙ take-append-drop p old

written_then : (p : ℕ) (s t old : List ℕ) → p + length s ≤ length old → written_at (p + length s) t (written_at p s old) ≡ written_at p (s ++ t) old
unfolding written_at
written_then p s t old h =
    let n : ℕ = p + length s in
    let front : List ℕ = take p old ++ s in
    let fits : p ≤ length old = omega arith in
    let long : length front ≡ n = length-append (take p old) s ∙ ap (λ k. k + length s) (length-take-le p old fits) in
    let split : take p old ++ (s ++ drop (p + length s) old) ≡ front ++ drop n old = sym (append_assoc (take p old) s (drop n old)) in
    let before : take n (take p old ++ (s ++ drop (p + length s) old)) ≡ front = ap (take n) split ∙ take_at front (drop n old) n long in
    let after : drop (n + length t) (take p old ++ (s ++ drop (p + length s) old)) ≡ drop (n + length t) old =
    sym (drop-drop (length t) n (take p old ++ (s ++ drop (p + length s) old))) ∙ ap (drop (length t)) (ap (drop n) split ∙ drop_at front (drop n old) n long) ∙ drop-drop (length t) n old in
    let whole : (p + length s) + length t ≡ p + length (s ++ t) = omega (arith, length-append s t) in
    (λ i. before i ++ (t ++ after i))
    ∙ append_assoc (take p old) s (t ++ drop (n + length t) old)
    ∙ ap (λ l. take p old ++ l) (sym (append_assoc s t (drop (n + length t) old)) ∙ ap (λ k. (s ++ t) ++ drop k old) whole)

-- t is written at n, where s, written at p, ends
pub both_written : (n p : ℕ) (s t old : List ℕ) → n ≡ p + length s → p + length s ≤ length old → written_at n t (written_at p s old) ≡ written_at p (s ++ t) old
both_written n p s t old e h = ap (λ k. written_at k t (written_at p s old)) e ∙ written_then p s t old h

-- a text that ends at e, written backwards from there
pub digits_written : (r p e : ℕ) (old new text : List ℕ) → r + length text ≡ e → e ≡ p + length text → drop r new ≡ text ++ drop e old → take r new ≡ take r old → new ≡ written_at p text old
unfolding written_at
digits_written r p e old new text starts ends behind before =
    let place : r ≡ p = omega (arith, starts, ends) in
    sym (take-append-drop r new)
    ∙ (λ i. before i ++ behind i)
    ∙ ap (λ k. take k old ++ (text ++ drop e old)) place
    ∙ ap (λ k. take p old ++ (text ++ drop k old)) ends

-- the whole of a text that has room
pub whole_written : (text old : List ℕ) → length text ≤ length old → written_at 0 text old ≡ written_table text old
unfolding written_at
whole_written text old h =
    let from : 0 + length text ≡ length text = omega arith in
    ap (λ k. text ++ drop k old) from ∙ sym (cond-true (leb (length text) (length old)) (text ++ drop (length text) old) old (le-leb (length text) (length old) h))

pub ruleset writing = (none_written, both_written, whole_written, length-append, append_assoc)
