-- The facts of a book with their spans: how many there are, and what a pass over the records gives of them.
use Rattle.std.proofs.Common.{◌≡◌, ℕ, zero, suc, ◌+◌, ◌<◌, ◌≤◌, min, cond, List, [], ◌∷◌, map, length, get_or, take, drop, is_some, sum_by, Some, sym, refl, ap, ◌∙◌, subst, ⊎_elim, add-one, arith}
use Rattle.std.specs.List.{AllByRecursion, cons_option, enumerate_from, filter_map, zip}
use Rattle.std.proofs.lemmas.List.{drop_all, drop-drop, get_or_default, get_or-map, length-map}
use Rattle.std.proofs.lemmas.Slice.Zip.{get_or-zip, length-zip}
use Rattle.std.proofs.lemmas.Simd.{map-map}
use Rattle.std.proofs.lemmas.List.FromFn.{length-enumerate_from, get_or-enumerate_from}
use Rattle.std.proofs.lemmas.List.Sums.{sum_by-cons, sum_by-take-le, sum_by-take-drop, sum_by-drop_more}
use Rattle.std.proofs.lemmas.Bool.{cases_lt, cond_both}
use Rattle.undoable.specs.declared.facts.Fact.{Fact}
use Rattle.undoable.specs.Kinds.{same}
use Rattle.book.specs.declared.records.Record.{Record}
use Rattle.book.specs.declared.records.Record.TheVariants as is
use Rattle.book.specs.Alive.{Entry, alive, equal_to}
use Rattle.book.specs.Records.{fact_in, is_fact, is_question, fact_count, question_count}
use Rattle.book.specs.Spans.{until, span, fact_within, span_if, span_at, entries_from}
use Rattle.book.proofs.Asked.{questions-cons}
use Rattle.solver.specs.Laid.{Spanned, spanned, Tabled}
use Rattle.solver.proofs.Passing.{kept}

-- the records behind the first that is left
pub drop_next : (n : ℕ) (rs : List Record) {r : Record} {l : List Record} → drop n rs ≡ r ∷ l → drop (n + 1) rs ≡ l
drop_next n rs e = sym (drop-drop 1 n rs) ∙ ap (drop 1) e

-- the records that enter facts, and their spans
facts_kept : (n : ℕ) (rs : List Record) → map (λ p. p.0) (kept (λ r. is_some (fact_in r)) n rs) ≡ map (λ x. x.number) (entries_from n rs)
facts_kept n [] = refl
facts_kept n (is.Fact f ∷ rs) = ap (λ l. n ∷ l) (facts_kept (n + 1) rs ∙ ap (λ m. map (λ x. x.number) (entries_from m rs)) (add-one n))
facts_kept n (is.Withdrawal f ∷ rs) = facts_kept (n + 1) rs ∙ ap (λ m. map (λ x. x.number) (entries_from m rs)) (add-one n)
facts_kept n (is.Question q ∷ rs) = facts_kept (n + 1) rs ∙ ap (λ m. map (λ x. x.number) (entries_from m rs)) (add-one n)

spans_kept : (rs : List Record) (n : ℕ) (l : List Record) → drop n rs ≡ l → filter_map (λ p. span_at rs p.0) (enumerate_from n l) ≡ map (λ x. span rs x.number x.fact) (entries_from n l)
spans_kept rs n [] e = refl
spans_kept rs n (is.Fact f ∷ l) e =
    ap (λ y. cons_option (span_if rs n (fact_within y)) (filter_map (λ p. span_at rs p.0) (enumerate_from (n + 1) l))) e
    ∙ ap (λ xs. span rs n f ∷ xs) (spans_kept rs (n + 1) l (drop_next n rs e) ∙ ap (λ m. map (λ x. span rs x.number x.fact) (entries_from m l)) (add-one n))
spans_kept rs n (is.Withdrawal f ∷ l) e =
    ap (λ y. cons_option (span_if rs n (fact_within y)) (filter_map (λ p. span_at rs p.0) (enumerate_from (n + 1) l))) e ∙ spans_kept rs (n + 1) l (drop_next n rs e) ∙ ap (λ m. map (λ x. span rs x.number x.fact) (entries_from m l)) (add-one n)
spans_kept rs n (is.Question q ∷ l) e =
    ap (λ y. cons_option (span_if rs n (fact_within y)) (filter_map (λ p. span_at rs p.0) (enumerate_from (n + 1) l))) e ∙ spans_kept rs (n + 1) l (drop_next n rs e) ∙ ap (λ m. map (λ x. span rs x.number x.fact) (entries_from m l)) (add-one n)

pub numbers_passed : (rs : List Record) → map (λ p. p.0) (kept (λ r. is_some (fact_in r)) 0 rs) ≡ map (λ x. x.number) (spanned rs)
numbers_passed rs = facts_kept 0 rs ∙ sym (map-map (λ (x : Spanned). x.number) (λ (x : Entry). record { number = x.number; span = span rs x.number x.fact }) (entries_from 0 rs))

pub spans_passed : (rs : List Record) → filter_map (λ p. span_at rs p.0) (enumerate_from 0 rs) ≡ map (λ x. x.span) (spanned rs)
spans_passed rs = spans_kept rs 0 rs refl ∙ sym (map-map (λ (x : Spanned). x.span) (λ (x : Entry). record { number = x.number; span = span rs x.number x.fact }) (entries_from 0 rs))

-- each fact stands in the record of its number
entries_behind : (rs : List Record) (n : ℕ) (l : List Record) → AllByRecursion (λ (x : Entry). fact_within (drop x.number rs) ≡ Some x.fact) (entries_from (n + 1) l) → AllByRecursion (λ (x : Entry). fact_within (drop x.number rs) ≡ Some x.fact) (entries_from (suc n) l)
entries_behind rs n l a = subst (λ m. AllByRecursion (λ (x : Entry). fact_within (drop x.number rs) ≡ Some x.fact) (entries_from m l)) (add-one n) a

pub entries_stand : (rs : List Record) (n : ℕ) (l : List Record) → drop n rs ≡ l → AllByRecursion (λ (x : Entry). fact_within (drop x.number rs) ≡ Some x.fact) (entries_from n l)
entries_stand rs n [] e = tt
entries_stand rs n (is.Fact f ∷ l) e = (ap fact_within e, entries_behind rs n l (entries_stand rs (n + 1) l (drop_next n rs e)))
entries_stand rs n (is.Withdrawal f ∷ l) e = entries_behind rs n l (entries_stand rs (n + 1) l (drop_next n rs e))
entries_stand rs n (is.Question q ∷ l) e = entries_behind rs n l (entries_stand rs (n + 1) l (drop_next n rs e))

-- how many there are
pub entered_count : (n : ℕ) (rs : List Record) → length (entries_from n rs) ≡ fact_count rs
entered_count n [] = refl
entered_count n (is.Fact f ∷ rs) = omega (arith, entered_count (suc n) rs, sum_by-cons (λ r. cond (is_fact r) 1 0) (is.Fact f) rs)
entered_count n (is.Withdrawal f ∷ rs) = omega (arith, entered_count (suc n) rs, sum_by-cons (λ r. cond (is_fact r) 1 0) (is.Withdrawal f) rs)
entered_count n (is.Question q ∷ rs) = omega (arith, entered_count (suc n) rs, sum_by-cons (λ r. cond (is_fact r) 1 0) (is.Question q) rs)

pub spanned_count : (rs : List Record) → length (spanned rs) ≡ fact_count rs
spanned_count rs = length-map (entries_from 0 rs) (λ (x : Entry). record { number = x.number; span = span rs x.number x.fact }) ∙ entered_count 0 rs

-- a sum over them
pub sum_spanned : (rs : List Record) (w : Spanned → ℕ) → sum_by w (spanned rs) ≡ sum_by (λ x. w (record { number = x.number; span = span rs x.number x.fact })) (entries_from 0 rs)
sum_spanned rs w = sum_map (λ (x : Entry). record { number = x.number; span = span rs x.number x.fact }) (entries_from 0 rs)
  where
    sum_map : (g : Entry → Spanned) (xs : List Entry) → sum_by w (map g xs) ≡ sum_by (λ x. w (g x)) xs
    sum_map g [] = refl
    sum_map g (x ∷ xs) = omega (arith, sum_map g xs, sum_by-cons w (g x) (map g xs), sum_by-cons (λ y. w (g y)) x xs)

-- a span ends with the last question at the latest
until_most : (f : Fact) (k : ℕ) (rs : List Record) → until f k rs ≤ question_count rs
until_most f k [] = omega arith
until_most f k (is.Fact g ∷ rs) = omega (arith, until_most f k rs, questions-cons (is.Fact g) rs)
until_most f k (is.Question q ∷ rs) = omega (arith, until_most f k rs, questions-cons (is.Question q) rs)
until_most f zero (is.Withdrawal g ∷ rs) =
    let more = questions-cons (is.Withdrawal g) rs in
    cond_both (same f g) _ _ (λ n. n ≤ question_count (is.Withdrawal g ∷ rs)) (λ _. omega arith) (λ _. omega (arith, more, until_most f zero rs))
until_most f (suc k) (is.Withdrawal g ∷ rs) =
    let more = questions-cons (is.Withdrawal g) rs in
    cond_both (same f g) _ _ (λ n. n ≤ question_count (is.Withdrawal g ∷ rs)) (λ _. omega (arith, more, until_most f k rs)) (λ _. omega (arith, more, until_most f (suc k) rs))

drop_fewer : (n : ℕ) (rs : List Record) → question_count (take n rs) + question_count (drop (suc n) rs) ≤ question_count rs
drop_fewer n rs =
    let any = is.Question (record { first = 0; second = 0 }) in
    ⊎_elim
    (λ (l : n < length rs). omega (arith, sum_by-take-drop (λ r. cond (is_question r) 1 0) rs n, sum_by-drop_more (λ r. cond (is_question r) 1 0) rs n any l, ap (λ k. question_count (drop k rs)) (add-one n)))
    (λ (l : length rs ≤ n). omega (arith, sum_by-take-le (λ r. cond (is_question r) 1 0) rs n, ap question_count (drop_all (suc n) rs (omega arith))))
    (cases_lt n (length rs))

span_within : (rs : List Record) (n : ℕ) (f : Fact) → ((span rs n f).0 ≤ question_count rs) × ((span rs n f).1 ≤ question_count rs)
span_within rs n f =
    let u = until_most f (equal_to f (alive (take n rs))) (drop (suc n) rs) in
    (omega (arith, drop_fewer n rs), omega (arith, drop_fewer n rs, u))

-- a fact's number is that of one of the records
number_within : (n : ℕ) (rs : List Record) (k : ℕ) (d : Entry) → k < length (entries_from n rs) → (get_or (entries_from n rs) k d).number < n + length rs
number_within n [] k d h = absurd (omega arith)
number_within n (is.Fact f ∷ rs) zero d h = omega arith
number_within n (is.Fact f ∷ rs) (suc k) d h = omega (arith, number_within (suc n) rs k d (omega arith))
number_within n (is.Withdrawal f ∷ rs) k d h = omega (arith, number_within (suc n) rs k d h)
number_within n (is.Question q ∷ rs) k d h = omega (arith, number_within (suc n) rs k d h)

pub spanned_within : (rs : List Record) (k : ℕ) (d : Spanned) → k < length (spanned rs) → ((get_or (spanned rs) k d).number < length rs) × ((get_or (spanned rs) k d).span.0 ≤ question_count rs) × ((get_or (spanned rs) k d).span.1 ≤ question_count rs)
spanned_within rs k d h =
    let f : Entry → Spanned = λ x. record { number = x.number; span = span rs x.number x.fact } in
    let none : Entry = record { number = 0; fact = record { first = 0; second = 0 } } in
    let lt : k < length (entries_from 0 rs) = omega (arith, h, length-map (entries_from 0 rs) f) in
    let x : Entry = get_or (entries_from 0 rs) k none in
    let w = span_within rs x.number x.fact in
    let e = get_or-map f (entries_from 0 rs) k none d lt in
    (omega (arith, number_within 0 rs k none lt, ap (λ y. y.number) e), omega (arith, w.0, ap (λ y. y.span.0) e), omega (arith, w.1, ap (λ y. y.span.1) e))

-- one turn of a loop over the spans, counted
pub span_turn : (rs : List Record) (n i s e : ℕ) (d : Spanned) → (n < length (enumerate_from 0 (filter_map (λ p. span_at rs p.0) (enumerate_from 0 rs)))) × ((i, (s, e)) ≡ get_or (enumerate_from 0 (filter_map (λ p. span_at rs p.0) (enumerate_from 0 rs))) n (i, (s, e))) → (i ≡ n) × (n < length (spanned rs)) × ((s, e) ≡ (get_or (spanned rs) n d).span)
span_turn rs n i s e d t =
    let xs = filter_map (λ p. span_at rs p.0) (enumerate_from 0 rs) in
    let m = length-enumerate_from 0 xs in
    let lt : n < length (filter_map (λ p. span_at rs p.0) (enumerate_from 0 rs)) = omega (arith, t.0, m) in
    let here = t.1 ∙ get_or-enumerate_from 0 xs n (i, (s, e)) lt in
    let within : n < length (spanned rs) = omega (arith, lt, ap length (spans_passed rs), length-map (spanned rs) (λ (x : Spanned). x.span)) in
    (omega (arith, ap (λ p. p.0) here), within, ap (λ p. p.1) here ∙ ap (λ l. get_or l n (s, e)) (spans_passed rs) ∙ get_or-map (λ (x : Spanned). x.span) (spanned rs) n d (s, e) within)

-- one turn of a loop over the facts and their spans in a table
pub fact_turn : (rs : List Record) (ws : List (List ℕ)) → Tabled ws (spanned rs) → (n number : ℕ) (item : Record) (w : List ℕ) (d : Spanned) → (n < length (zip (kept (λ r. is_some (fact_in r)) 0 rs) ws)) × (((number, item), w) ≡ get_or (zip (kept (λ r. is_some (fact_in r)) 0 rs) ws) n ((number, item), w)) → (n < length (spanned rs)) × (number ≡ (get_or (spanned rs) n d).number) × (w ≡ (get_or (spanned rs) n d).span.0 ∷ ((get_or (spanned rs) n d).span.1 ∷ []))
fact_turn rs ws tabled n number item w d t =
    let ks = kept (λ r. is_some (fact_in r)) 0 rs in
    let xs = spanned rs in
    let pair : Spanned → List ℕ = λ x. x.span.0 ∷ (x.span.1 ∷ []) in
    let m = length-zip ks ws in
    let a : n < length (kept (λ r. is_some (fact_in r)) 0 rs) = omega (arith, t.0, m) in
    let b : n < length ws = omega (arith, t.0, m) in
    let e = t.1 ∙ get_or-zip ks ws n ((number, item), w) a b in
    let within : n < length (spanned rs) = omega (arith, a, ap length (numbers_passed rs), length-map xs (λ (x : Spanned). x.number), length-map ks (λ (p : ℕ × Record). p.0)) in (
      within,
      ap (λ p. p.0.0) e ∙ sym (get_or-map (λ (p : ℕ × Record). p.0) ks n (number, item) 0 a) ∙ ap (λ l. get_or l n 0) (numbers_passed rs) ∙ get_or-map (λ (x : Spanned). x.number) xs n d 0 within,
      ap (λ p. p.1) e ∙ get_or_default ws n w [] b ∙ tabled n within ∙ get_or-map pair xs n d [] within,
    )

pub facts_zipped : (rs : List Record) (ws : List (List ℕ)) → length (zip (kept (λ r. is_some (fact_in r)) 0 rs) ws) ≡ min (length (spanned rs)) (length ws)
facts_zipped rs ws =
    let ks = kept (λ r. is_some (fact_in r)) 0 rs in
    let e : length (kept (λ r. is_some (fact_in r)) 0 rs) ≡ length (spanned rs) = sym (length-map ks (λ (p : ℕ × Record). p.0)) ∙ ap length (numbers_passed rs) ∙ length-map (spanned rs) (λ (x : Spanned). x.number) in
    length-zip ks ws ∙ ap (λ k. min k (length ws)) e
