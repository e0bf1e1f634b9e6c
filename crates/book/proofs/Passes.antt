-- What a pass over the records of a sound list comes to, given what it has counted and the records ahead.
use Rattle.std.proofs.Common.{◌≡◌, ℕ, suc, ◌+◌, ◌-◌, ◌<◌, max, Bool, true, cond, ◌&&◌, List, [], ◌∷◌, ◌++◌, length, nat_lt, Option, Some, None, Ok, sym, refl, ap, ◌∙◌, append_assoc, append-nil, add-one, arith}
use Rattle.std.proofs.lemmas.Bool.{lt-ltb, and_from}
use Rattle.std.proofs.lemmas.List.Sums.{sum_by_push, count_by-le-length}
use Rattle.undoable.specs.Kinds.{same}
use Rattle.book.specs.declared.records.Record.{Record}
use Rattle.book.specs.declared.records.Record.TheVariants as is
use Rattle.book.specs.Alive.{alive}
use Rattle.book.specs.Records.{is_question, question_count}
use Rattle.book.specs.Rules.{judge, sound}
use Rattle.book.specs.Spans.{before, greatest, deepest_of, first_from, first_crowded}
use Rattle.book.proofs.Asked.{before_at, depth, questions-cons}
use Rattle.book.proofs.Judging.{living, length-alive-push, sound_next, withdrawal_ok}

-- with n facts alive, each withdrawal ahead finds one to end
abbrev pub lasts : ℕ → List Record → Bool
lasts n [] = true
lasts n (is.Fact f ∷ rs) = lasts (n + 1) rs
lasts n (is.Withdrawal f ∷ rs) = nat_lt 0 n && lasts (n - 1) rs
lasts n (is.Question q ∷ rs) = lasts n rs

-- the greatest number alive at a question, n facts being alive and d being the greatest number so far
abbrev pub deepest_on : ℕ → ℕ → List Record → ℕ
deepest_on n d [] = d
deepest_on n d (is.Fact f ∷ rs) = deepest_on (n + 1) d rs
deepest_on n d (is.Withdrawal f ∷ rs) = deepest_on (n - 1) d rs
deepest_on n d (is.Question q ∷ rs) = deepest_on n (max d n) rs

-- the first question at which there are too many, n facts being alive and q questions having been asked
abbrev pub crowded_on : ℕ → ℕ → ℕ → ℕ → List Record → Option ℕ
crowded_on others limit n q [] = None
crowded_on others limit n q (is.Fact f ∷ rs) = crowded_on others limit (n + 1) q rs
crowded_on others limit n q (is.Withdrawal f ∷ rs) = crowded_on others limit (n - 1) q rs
crowded_on others limit n q (is.Question x ∷ rs) = cond (nat_lt limit (others + n)) (Some q) (crowded_on others limit n (q + 1) rs)

-- the pass one record further
module _ (all front : List Record) (r : Record) (rest : List Record) (split : front ++ r ∷ rest ≡ all) (s : sound all ≡ true) where
  further : (front ++ r ∷ []) ++ rest ≡ all
  further = append_assoc front (r ∷ []) rest ∙ split

  accepted : judge front r ≡ Ok tt
  accepted = sound_next [] front r rest (ap sound split ∙ s)

  lives : length (alive (front ++ r ∷ [])) ≡ living r (length (alive front))
  lives = length-alive-push front r accepted

-- how many questions there are after one more record
abbrev asking : Record → ℕ → ℕ
asking (is.Fact f) n = n
asking (is.Withdrawal f) n = n
asking (is.Question q) n = n + 1

asked : (front : List Record) (r : Record) → question_count (front ++ r ∷ []) ≡ asking r (question_count front)
asked front (is.Fact f) = omega (arith, sum_by_push (λ x. cond (is_question x) 1 0) front (is.Fact f))
asked front (is.Withdrawal f) = omega (arith, sum_by_push (λ x. cond (is_question x) 1 0) front (is.Withdrawal f))
asked front (is.Question q) = sum_by_push (λ x. cond (is_question x) 1 0) front (is.Question q)

lasts_from : (all front rest : List Record) → front ++ rest ≡ all → sound all ≡ true → lasts (length (alive front)) rest ≡ true
lasts_from all front [] e s = refl
lasts_from all front (is.Fact f ∷ rs) e s = ap (λ n. lasts n rs) (sym (lives all front _ rs e s)) ∙ lasts_from all (front ++ is.Fact f ∷ []) rs (further all front _ rs e s) s
lasts_from all front (is.Withdrawal f ∷ rs) e s =
    let some : 0 < length (alive front) = omega (arith, withdrawal_ok front f (accepted all front _ rs e s), count_by-le-length (λ x. same f x.fact) (alive front)) in
    and_from _ _ (lt-ltb 0 _ some) (ap (λ n. lasts n rs) (sym (lives all front _ rs e s)) ∙ lasts_from all (front ++ is.Withdrawal f ∷ []) rs (further all front _ rs e s) s)
lasts_from all front (is.Question q ∷ rs) e s = ap (λ n. lasts n rs) (sym (lives all front _ rs e s)) ∙ lasts_from all (front ++ is.Question q ∷ []) rs (further all front _ rs e s) s

pub sound_lasts : (rs : List Record) → sound rs ≡ true → lasts 0 rs ≡ true
sound_lasts rs s = lasts_from rs [] rs refl s

deepest_from : (all front rest : List Record) → front ++ rest ≡ all → sound all ≡ true → deepest_on (length (alive front)) (greatest (depth all) (question_count front)) rest ≡ deepest_of all
deepest_from all front [] e s = ap (λ l. greatest (depth all) (question_count l)) (sym (append-nil front) ∙ e)
deepest_from all front (is.Fact f ∷ rs) e s =
    (λ i. deepest_on (sym (lives all front (is.Fact f) rs e s) i) (greatest (depth all) (sym (asked front (is.Fact f)) i)) rs)
    ∙ deepest_from all (front ++ is.Fact f ∷ []) rs (further all front _ rs e s) s
deepest_from all front (is.Withdrawal f ∷ rs) e s =
    (λ i. deepest_on (sym (lives all front (is.Withdrawal f) rs e s) i) (greatest (depth all) (sym (asked front (is.Withdrawal f)) i)) rs)
    ∙ deepest_from all (front ++ is.Withdrawal f ∷ []) rs (further all front _ rs e s) s
deepest_from all front (is.Question q ∷ rs) e s =
    let here : before (question_count front) all ≡ front = ap (before (question_count front)) (sym e) ∙ before_at front q rs in
    (λ i. deepest_on (sym (lives all front (is.Question q) rs e s) i) (max (greatest (depth all) (question_count front)) (length (alive (sym here i)))) rs)
    ∙ ap (λ k. deepest_on (length (alive (front ++ is.Question q ∷ []))) (greatest (depth all) k) rs) (sym (asked front (is.Question q) ∙ add-one _))
    ∙ deepest_from all (front ++ is.Question q ∷ []) rs (further all front _ rs e s) s

pub deepest_is : (rs : List Record) → sound rs ≡ true → deepest_on 0 0 rs ≡ deepest_of rs
deepest_is rs s = deepest_from rs [] rs refl s

module _ (others limit : ℕ) (all : List Record) (s : sound all ≡ true) where
  abbrev test : ℕ → Bool
  test q = nat_lt limit (others + depth all q)

  crowded_from : (front rest : List Record) → front ++ rest ≡ all → crowded_on others limit (length (alive front)) (question_count front) rest ≡ first_from test (question_count rest) (question_count front)
  crowded_from front [] e = refl
  crowded_from front (is.Fact f ∷ rs) e =
      (λ i. crowded_on others limit (sym (lives all front (is.Fact f) rs e s) i) (sym (asked front (is.Fact f)) i) rs)
      ∙ crowded_from (front ++ is.Fact f ∷ []) rs (further all front _ rs e s)
      ∙ ap (first_from test (question_count rs)) (asked front (is.Fact f))
  crowded_from front (is.Withdrawal f ∷ rs) e =
      (λ i. crowded_on others limit (sym (lives all front (is.Withdrawal f) rs e s) i) (sym (asked front (is.Withdrawal f)) i) rs)
      ∙ crowded_from (front ++ is.Withdrawal f ∷ []) rs (further all front _ rs e s)
      ∙ ap (first_from test (question_count rs)) (asked front (is.Withdrawal f))
  crowded_from front (is.Question q ∷ rs) e =
      let m = question_count front in
      let here : before (question_count front) all ≡ front = ap (before (question_count front)) (sym e) ∙ before_at front q rs in
      let later =
      (λ i. crowded_on others limit (sym (lives all front (is.Question q) rs e s) i) (sym (asked front (is.Question q)) i) rs)
      ∙ crowded_from (front ++ is.Question q ∷ []) rs (further all front _ rs e s)
      ∙ ap (first_from test (question_count rs)) (asked front (is.Question q) ∙ add-one m) in
      let count : question_count (is.Question q ∷ rs) ≡ suc (question_count rs) = questions-cons (is.Question q) rs ∙ omega arith in
      (λ i. cond (nat_lt limit (others + length (alive (sym here i)))) (Some m) (later i)) ∙ ap (λ k. first_from test k m) (sym count)

  pub crowded_is : crowded_on others limit 0 0 all ≡ first_crowded all others limit
  crowded_is = crowded_from [] all refl
