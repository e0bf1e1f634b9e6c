-- Load and the words of sound lists: each undoes the other.
use Rattle.std.proofs.Common.{◌≡◌, ℕ, ◌+◌, ◌*◌, ◌^◌, ◌≤◌, Bool, true, false, cond, ◌&&◌, eqb, leb, List, [], ◌∷◌, ◌++◌, is_ok, Ok, Err, Result, sym, refl, ap, ◌∙◌, append_assoc, append-nil, arith}
use Rattle.std.proofs.lemmas.Nat.{shr_high, shr_split}
use Rattle.std.proofs.lemmas.Bool.{cond-true, cond_both, ltb-true, and_parts, leb-true, eqb-true, eqb-false}
use Rattle.book.specs.declared.records.Record.{Record}
use Rattle.book.specs.declared.records.Record.TheVariants as is
use Rattle.book.specs.declared.refusals.LoadError.{LoadError}
use Rattle.book.specs.declared.refusals.Refusal.{Refusal}
use Rattle.book.specs.Loads.{loads_from, and_then}
use Rattle.book.specs.Rules.{fits, judge, sound, sound_after}
use Rattle.book.specs.Theorems.{LoadsBack, LoadsOnlyBooks}
use Rattle.book.specs.Words.{is_head, is_second, kind_of, payload_in, record_in, record_with, head_word_of, second_word_of, first_of, second_of, tag_of, writes}
use Rattle.book.proofs.Coding.{record_in-words, writes-append}
use Rattle.book.proofs.Judging.{judge_ok, ok_is, passed, sound-push}

pub head_kind : (r : Record) → fits r ≡ true → kind_of (head_word_of r) ≡ tag_of r
head_kind r h = shr_high (tag_of r) 29 (first_of r) (ltb-true (first_of r) (2 ^ 29) (and_parts _ _ h).0)

pub head_is : (r : Record) → fits r ≡ true → is_head (head_word_of r) ≡ true
head_is r h = ap (λ k. leb 1 k && leb k 3) (head_kind r h) ∙ tag_fits r
  where
    tag_fits : (r : Record) → (leb 1 (tag_of r) && leb (tag_of r) 3) ≡ true
    tag_fits (is.Fact f) = refl
    tag_fits (is.Withdrawal f) = refl
    tag_fits (is.Question q) = refl

pub second_is : (r : Record) → fits r ≡ true → is_second (second_word_of r) ≡ true
second_is r h = ap (λ k. eqb k 4) (shr_high 4 29 (second_of r) (ltb-true (second_of r) (2 ^ 29) (and_parts _ _ h).1))

back : (p : ℕ) (rs qs : List Record) → sound_after rs qs ≡ true → loads_from p rs (writes qs) ≡ Ok (rs ++ qs)
back p rs [] s = ap Ok (sym (append-nil rs))
back p rs (q ∷ qs) s =
    let t = and_parts (is_ok (judge rs q)) (sound_after (rs ++ q ∷ []) qs) s in
    let ok = ok_is (judge rs q) t.0 in
    let fit = (judge_ok rs q ok).0 in
    let e = record_in-words q fit in
    cond-true (is_head (head_word_of q)) _ _ (head_is q fit)
    ∙ cond-true (is_second (second_word_of q)) _ _ (second_is q fit)
    ∙ (λ i. and_then (judge rs (e i)) p (loads_from (p + 2) (rs ++ e i ∷ []) (writes qs)))
    ∙ ap (λ x. and_then x p (loads_from (p + 2) (rs ++ q ∷ []) (writes qs))) ok
    ∙ back (p + 2) (rs ++ q ∷ []) qs t.1
    ∙ ap Ok (append_assoc rs (q ∷ []) qs)

pub loads_back : LoadsBack
loads_back rs s = back 0 [] rs s

module _ (k a b : ℕ) where
  abbrev with_fact : Record
  with_fact = is.Fact (record { first = a; second = b })

  abbrev with_withdrawal : Record
  with_withdrawal = is.Withdrawal (record { first = a; second = b })

  abbrev with_question : Record
  with_question = is.Question (record { first = a; second = b })

  -- what holds at each kind holds of a record
  each : (P : Record → Type 0) → (k ≡ 1 → P with_fact) → (k ≡ 2 → P with_withdrawal) → ((k ≡ 1 → ⊥) → (k ≡ 2 → ⊥) → P with_question) → P (record_with k a b)
  each P f w q =
      cond_both (eqb k 1) _ _ P
      (λ e. f (eqb-true k 1 e))
      (λ e. cond_both (eqb k 2) _ _ P (λ d. w (eqb-true k 2 d)) (λ d. q (eqb-false k 1 e) (eqb-false k 2 d)))

-- the words of the record of two words are those words
pub words-record_in : (h s : ℕ) → is_head h ≡ true → is_second s ≡ true → (head_word_of (record_in h s) ≡ h) × (second_word_of (record_in h s) ≡ s)
words-record_in h s i j =
    let t = and_parts (leb 1 (kind_of h)) (leb (kind_of h) 3) i in
    let low = leb-true 1 (kind_of h) t.0 in
    let high = leb-true (kind_of h) 3 t.1 in
    let tag : tag_of (record_in h s) ≡ kind_of h = each (kind_of h) (payload_in h) (payload_in s) (λ r. tag_of r ≡ kind_of h) (λ e. sym e) (λ e. sym e) (λ d e. other (kind_of h) low high d e) in
    let one : first_of (record_in h s) ≡ payload_in h = each (kind_of h) (payload_in h) (payload_in s) (λ r. first_of r ≡ payload_in h) (λ e. refl) (λ e. refl) (λ d e. refl) in
    let two : second_of (record_in h s) ≡ payload_in s = each (kind_of h) (payload_in h) (payload_in s) (λ r. second_of r ≡ payload_in s) (λ e. refl) (λ e. refl) (λ d e. refl) in
    let four : kind_of s ≡ 4 = eqb-true (kind_of s) 4 j in (
      (λ n. tag n * 2 ^ 29 + one n) ∙ shr_split h 29,
      ap (λ n. 4 * 2 ^ 29 + n) two ∙ ap (λ n. n * 2 ^ 29 + payload_in s) (sym four) ∙ shr_split s 29,
    )
  where
    other : (k : ℕ) → 1 ≤ k → k ≤ 3 → (k ≡ 1 → ⊥) → (k ≡ 2 → ⊥) → 3 ≡ k
    other k l u d e = omega arith

neither : {A E : Type 0} (b : Bool) (x y : E) (q : A) → cond b (Err x) (Err y) ≡ Ok q → ⊥
neither true x y q h = cc
neither false x y q h = cc

and_then-ok : (x : Result (Unit {0}) Refusal) (p : ℕ) (next : Result (List Record) LoadError) (qs : List Record) → and_then x p next ≡ Ok qs → (x ≡ Ok tt) × (next ≡ Ok qs)
and_then-ok (Ok u) p next qs h = (refl, h)
and_then-ok (Err e) p next qs h = absurd cc

only : (p : ℕ) (rs : List Record) (ws : List ℕ) (qs : List Record) → sound rs ≡ true → loads_from p rs ws ≡ Ok qs → (sound qs ≡ true) × (writes qs ≡ writes rs ++ ws)
only p rs [] qs s h = let e : rs ≡ qs = cc in (ap sound (sym e) ∙ s, ap writes (sym e) ∙ sym (append-nil (writes rs)))
only p rs (w ∷ []) qs s h = absurd (neither (is_head w) _ _ qs h)
only p rs (w ∷ (v ∷ ws)) qs s h =
    let a = passed (is_head w) _ _ qs h in
    let b = passed (is_second v) _ _ qs a.1 in
    let r = record_in w v in
    let c = and_then-ok (judge rs r) p (loads_from (p + 2) (rs ++ r ∷ []) ws) qs b.1 in
    let d = only (p + 2) (rs ++ r ∷ []) ws qs (sound-push rs r s c.0) c.1 in
    let e = words-record_in w v a.0 b.0 in (
      d.0,
      d.1
          ∙ ap (λ l. l ++ ws) (writes-append rs (r ∷ []))
          ∙ append_assoc (writes rs) (head_word_of r ∷ (second_word_of r ∷ [])) ws
          ∙ (λ i. writes rs ++ e.0 i ∷ (e.1 i ∷ ws)),
    )

pub loads_only_books : LoadsOnlyBooks
loads_only_books ws rs h = only 0 [] ws rs refl h
