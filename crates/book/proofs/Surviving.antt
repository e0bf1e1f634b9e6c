-- The facts alive at a question are those whose span holds it.
-- An entry alive before some records lasts until as many equal withdrawals have passed as equal entries stand before it.
use Rattle.std.proofs.Common.{◌≡◌, ℕ, zero, suc, ◌+◌, ◌-◌, ◌<◌, ◌≤◌, Bool, true, false, cond, ◌&&◌, ltb, List, [], ◌∷◌, ◌++◌, length, take, drop, filter, sym, refl, ap, ◌∙◌, ⊎_elim, append_assoc, append-nil, add-zero, zero-add, arith}
use Rattle.std.proofs.lemmas.List.{length_push, take_at, drop_at}
use Rattle.std.proofs.lemmas.List.Sums.{sum_by_push}
use Rattle.std.proofs.lemmas.Bool.{cases_Bool, cond-true, cond-false, and_left, lt-ltb, le-ltb, le-leb, lt-leb, cases_lt}
use Rattle.undoable.specs.declared.facts.Fact.{Fact}
use Rattle.book.specs.declared.records.Record.{Record}
use Rattle.book.specs.declared.records.Record.TheVariants as is
use Rattle.book.specs.Alive.{Entry, without, alive_from, alive, equal_to}
use Rattle.book.specs.Records.{is_question, question_count}
use Rattle.undoable.specs.Kinds.{same}
use Rattle.book.specs.Spans.{until, span, holds, entries_from, before}
use Rattle.book.specs.Theorems.{AliveBySpans}
use Rattle.book.proofs.Asked.{questions-cons}
use Rattle.book.proofs.Judging.{alive-push}
use Rattle.undoable.proofs.Orders.{same_is, same_self}
use Rattle.book.proofs.Untils.{until_more}

same_turn : (f g : Fact) → same f g ≡ false → same g f ≡ false
same_turn f g e =
    ⊎_elim
    (λ (t : same g f ≡ true). let z : true ≡ false = sym (same_self f) ∙ ap (same f) (sym (same_is g f t)) ∙ e in absurd (clash z))
    (λ t. t)
    (cases_Bool (same g f))
  where
    clash : true ≡ false → ⊥
    clash z = let y : ◌≡◌ {A = ℕ} 0 1 = cc in omega arith

equal-push : (f : Fact) (xs : List Entry) (x : Entry) → equal_to f (xs ++ x ∷ []) ≡ equal_to f xs + cond (same f x.fact) 1 0
equal-push f xs x = sum_by_push (λ y. cond (same f y.fact) 1 0) xs x

-- the entry alone, or nothing
abbrev only_if : Bool → Entry → List Entry
only_if b x = cond b (x ∷ []) []

-- the entries xs, which come after `seen`, that last beyond question q; u says how long by the number of equal entries before
abbrev lasting : ℕ → (Fact → ℕ → ℕ) → List Entry → List Entry → List Entry
lasting q u seen [] = []
lasting q u seen (x ∷ xs) = only_if (ltb q (u x.fact (equal_to x.fact seen))) x ++ lasting q u (seen ++ x ∷ []) xs

ltb-suc : (a b : ℕ) → ltb (suc a) (suc b) ≡ ltb a b
ltb-suc a b =
    ⊎_elim
    (λ (h : a < b). lt-ltb (suc a) (suc b) (omega arith) ∙ sym (lt-ltb a b h))
    (λ (h : b ≤ a). le-ltb (suc a) (suc b) (omega arith) ∙ sym (le-ltb a b h))
    (cases_lt a b)

lasting_all : (u : Fact → ℕ → ℕ) (seen xs : List Entry) → lasting zero (λ f k. suc (u f k)) seen xs ≡ xs
lasting_all u seen [] = refl
lasting_all u seen (x ∷ xs) =
    let e = lt-ltb 0 (suc (u x.fact (equal_to x.fact seen))) (omega arith) in
    let rest = lasting_all u (seen ++ x ∷ []) xs in
    λ i. only_if (e i) x ++ rest i

lasting_push : (q : ℕ) (u : Fact → ℕ → ℕ) (seen xs : List Entry) (x : Entry) → lasting q u seen (xs ++ x ∷ []) ≡ lasting q u seen xs ++ only_if (ltb q (u x.fact (equal_to x.fact (seen ++ xs)))) x
lasting_push q u seen [] x = append-nil _ ∙ ap (λ l. only_if (ltb q (u x.fact (equal_to x.fact l))) x) (sym (append-nil seen))
lasting_push q u seen (y ∷ xs) x =
    ap (λ l. only_if (ltb q (u y.fact (equal_to y.fact seen))) y ++ l) (lasting_push q u (seen ++ y ∷ []) xs x ∙ ap (λ l. lasting q u (seen ++ y ∷ []) xs ++ only_if (ltb q (u x.fact (equal_to x.fact l))) x) (append_assoc seen (y ∷ []) xs))
    ∙ sym (append_assoc (only_if (ltb q (u y.fact (equal_to y.fact seen))) y) _ _)

lasting_next : (q : ℕ) (u : Fact → ℕ → ℕ) (seen xs : List Entry) → lasting (suc q) (λ f k. suc (u f k)) seen xs ≡ lasting q u seen xs
lasting_next q u seen [] = refl
lasting_next q u seen (x ∷ xs) =
    let e = ltb-suc q (u x.fact (equal_to x.fact seen)) in
    let rest = lasting_next q u (seen ++ x ∷ []) xs in
    λ i. only_if (e i) x ++ rest i

-- a withdrawal of g comes next
module _ (q : ℕ) (g : Fact) (rs : List Record) where
  abbrev then : Fact → ℕ → ℕ
  then f k = until f k (is.Withdrawal g ∷ rs)

  abbrev later : Fact → ℕ → ℕ
  later f k = until f k rs

  -- it takes one equal entry from those before
  fewer : (f : Fact) (k : ℕ) → then f (cond (same f g) 1 0 + k) ≡ later f k
  fewer f k =
      let le : cond (same f g) 1 0 ≤ cond (same f g) 1 0 + k = omega arith in
      let back : cond (same f g) 1 0 + k - cond (same f g) 1 0 ≡ k = omega arith in
      until_more f (cond (same f g) 1 0 + k) (is.Withdrawal g) rs le ∙ ap (λ n. 0 + until f n rs) back ∙ omega arith

  -- behind the entry that it ends
  behind : (seen seen' xs : List Entry) → ((f : Fact) → equal_to f seen ≡ cond (same f g) 1 0 + equal_to f seen') → lasting q then seen xs ≡ lasting q later seen' xs
  behind seen seen' [] h = refl
  behind seen seen' (x ∷ xs) h =
      let here : then x.fact (equal_to x.fact seen) ≡ later x.fact (equal_to x.fact seen') = ap (then x.fact) (h x.fact) ∙ fewer x.fact (equal_to x.fact seen') in
      let rest = behind (seen ++ x ∷ []) (seen' ++ x ∷ []) xs (λ f. omega (arith, h f, equal-push f seen x, equal-push f seen' x)) in
      λ i. only_if (ltb q (here i)) x ++ rest i

  -- up to it
  ended : (seen xs : List Entry) → equal_to g seen ≡ 0 → lasting q then seen xs ≡ lasting q later seen (without g xs)
  ended seen [] h = refl
  ended seen (x ∷ xs) h =
      ⊎_elim
      (λ (e : same g x.fact ≡ true).
      let is-g = same_is g x.fact e in
      let first : then x.fact (equal_to x.fact seen) ≡ 0 = ap (λ f. then f (equal_to f seen)) (sym is-g) ∙ ap (then g) h ∙ cond-true _ _ _ (same_self g) in
      let gone : ltb q (then x.fact (equal_to x.fact seen)) ≡ false = le-ltb q _ (omega (arith, first)) in
      let rest = behind (seen ++ x ∷ []) seen xs (λ f. equal-push f seen x ∙ ap (λ y. equal_to f seen + cond (same f y) 1 0) (sym is-g) ∙ omega arith) in
      (λ i. only_if (gone i) x ++ rest i) ∙ ap (lasting q later seen) (sym (cond-true _ _ _ e)))
      (λ (e : same g x.fact ≡ false).
      let other : ◌≡◌ {A = ℕ} (cond (same x.fact g) 1 0) 0 = cond-false _ _ _ (same_turn g x.fact e) in
      let here : then x.fact (equal_to x.fact seen) ≡ later x.fact (equal_to x.fact seen) = ap (then x.fact) (omega (arith, other)) ∙ fewer x.fact (equal_to x.fact seen) in
      let still : equal_to g (seen ++ x ∷ []) ≡ 0 = equal-push g seen x ∙ ap (λ n. equal_to g seen + n) (cond-false _ _ _ e) ∙ omega arith in
      let rest = ended (seen ++ x ∷ []) xs still in
      (λ i. only_if (ltb q (here i)) x ++ rest i) ∙ ap (lasting q later seen) (sym (cond-false _ _ _ e)))
      (cases_Bool (same g x.fact))

-- the facts that records enter, xs being alive before them, that are alive at question q of these records
abbrev fresh : ℕ → ℕ → List Entry → List Record → List Entry
fresh q n xs [] = []
fresh q n xs (is.Fact f ∷ rs) = only_if (ltb q (until f (equal_to f xs) rs)) (record { number = n; fact = f }) ++ fresh q (suc n) (xs ++ record { number = n; fact = f } ∷ []) rs
fresh q n xs (is.Withdrawal f ∷ rs) = fresh q (suc n) (without f xs) rs
fresh zero n xs (is.Question x ∷ rs) = []
fresh (suc q) n xs (is.Question x ∷ rs) = fresh q (suc n) xs rs

-- alive at a question are the old entries that last beyond it and the fresh ones
split : (q n : ℕ) (xs : List Entry) (rs : List Record) → q < question_count rs → alive_from n xs (before q rs) ≡ lasting q (λ f k. until f k rs) [] xs ++ fresh q n xs rs
split q n xs [] h = absurd (omega arith)
split q n xs (is.Fact f ∷ rs) h =
    let x : Entry = record { number = n; fact = f } in
    let lt : q < question_count rs = omega (arith, questions-cons (is.Fact f) rs) in
    split q (suc n) (xs ++ x ∷ []) rs lt
    ∙ ap (λ l. l ++ fresh q (suc n) (xs ++ x ∷ []) rs) (lasting_push q (λ g k. until g k rs) [] xs x)
    ∙ append_assoc (lasting q (λ g k. until g k rs) [] xs) _ _
split q n xs (is.Withdrawal f ∷ rs) h =
    let lt : q < question_count rs = omega (arith, questions-cons (is.Withdrawal f) rs) in
    split q (suc n) (without f xs) rs lt
    ∙ ap (λ l. l ++ fresh q (suc n) (without f xs) rs) (sym (ended q f rs [] xs refl))
split zero n xs (is.Question x ∷ rs) h = sym (append-nil _ ∙ lasting_all (λ f k. until f k rs) [] xs)
split (suc q) n xs (is.Question x ∷ rs) h =
    let lt : q < question_count rs = omega (arith, questions-cons (is.Question x) rs) in
    split q (suc n) xs rs lt ∙ ap (λ l. l ++ fresh q (suc n) xs rs) (sym (lasting_next q (λ f k. until f k rs) [] xs))

-- of the entries xs, those whose span in `all` holds question q
abbrev kept : List Record → ℕ → List Entry → List Entry
kept all q xs = filter (λ x. holds q (span all x.number x.fact)) xs

keep_first : (b : Bool) (x : Entry) (xs : List Entry) → cond b (x ∷ xs) xs ≡ only_if b x ++ xs
keep_first true x xs = refl
keep_first false x xs = refl

-- the records `done` come before record r and the records rs
module _ (done : List Record) (r : Record) (rs : List Record) where
  number_next : length (done ++ r ∷ []) ≡ suc (length done)
  number_next = length_push done r ∙ omega arith

  front_here : take (length done) (done ++ r ∷ rs) ≡ done
  front_here = take_at done (r ∷ rs) (length done) refl

  rest_here : drop (suc (length done)) (done ++ r ∷ rs) ≡ rs
  rest_here = ap (drop (suc (length done))) (sym (append_assoc done (r ∷ []) rs)) ∙ drop_at (done ++ r ∷ []) rs (suc (length done)) number_next

  move : (q : ℕ) → kept ((done ++ r ∷ []) ++ rs) q (entries_from (length (done ++ r ∷ [])) rs) ≡ kept (done ++ r ∷ rs) q (entries_from (suc (length done)) rs)
  move q i = kept (append_assoc done (r ∷ []) rs i) q (entries_from (number_next i) rs)

  asked_next : question_count (done ++ r ∷ []) ≡ question_count done + cond (is_question r) 1 0
  asked_next = sum_by_push (λ x. cond (is_question x) 1 0) done r

  first_of : (f : Fact) → span (done ++ r ∷ rs) (length done) f ≡ (question_count done, question_count done + until f (equal_to f (alive done)) rs)
  first_of f i = (question_count (front_here i), question_count (front_here i) + until f (equal_to f (alive (front_here i))) (rest_here i))

-- what is entered after question q is not alive at it
none_later : (q : ℕ) (done rs : List Record) → q < question_count done → kept (done ++ rs) q (entries_from (length done) rs) ≡ []
none_later q done [] h = refl
none_later q done (is.Fact f ∷ rs) h =
    let r = is.Fact f in
    let late : holds q (span (done ++ r ∷ rs) (length done) f) ≡ false = ap (holds q) (first_of done r rs f) ∙ and_left _ _ (lt-leb (question_count done) q h) in
    let more : q < question_count (done ++ r ∷ []) = omega (arith, asked_next done r rs) in
    cond-false _ _ _ late ∙ sym (move done r rs q) ∙ none_later q (done ++ r ∷ []) rs more
none_later q done (is.Withdrawal f ∷ rs) h =
    let r = is.Withdrawal f in
    let more : q < question_count (done ++ r ∷ []) = omega (arith, asked_next done r rs) in
    sym (move done r rs q) ∙ none_later q (done ++ r ∷ []) rs more
none_later q done (is.Question x ∷ rs) h =
    let r = is.Question x in
    let more : q < question_count (done ++ r ∷ []) = omega (arith, asked_next done r rs) in
    sym (move done r rs q) ∙ none_later q (done ++ r ∷ []) rs more

shift : (d q u : ℕ) → holds (d + q) (d, d + u) ≡ ltb q u
shift d q u =
    (λ i. le-leb d (d + q) (omega arith) i && ltb (d + q) (d + u))
    ∙ ⊎_elim
    (λ (h : q < u). lt-ltb (d + q) (d + u) (omega arith) ∙ sym (lt-ltb q u h))
    (λ (h : u ≤ q). le-ltb (d + q) (d + u) (omega arith) ∙ sym (le-ltb q u h))
    (cases_lt q u)

by_spans : (q : ℕ) (done rs : List Record) → fresh q (length done) (alive done) rs ≡ kept (done ++ rs) (question_count done + q) (entries_from (length done) rs)
by_spans q done [] = refl
by_spans q done (is.Fact f ∷ rs) =
    let r = is.Fact f in
    let x : Entry = record { number = length done; fact = f } in
    let test : ltb q (until f (equal_to f (alive done)) rs) ≡ holds (question_count done + q) (span (done ++ r ∷ rs) (length done) f) = sym (ap (holds (question_count done + q)) (first_of done r rs f) ∙ shift (question_count done) q (until f (equal_to f (alive done)) rs)) in
    let rest : fresh q (suc (length done)) (alive done ++ x ∷ []) rs ≡ kept (done ++ r ∷ rs) (question_count done + q) (entries_from (suc (length done)) rs) = (λ i. fresh q (sym (number_next done r rs) i) (sym (alive-push done r) i) rs) ∙ by_spans q (done ++ r ∷ []) rs ∙ ap (λ n. kept ((done ++ r ∷ []) ++ rs) (n + q) (entries_from (length (done ++ r ∷ [])) rs)) (asked_next done r rs ∙ add-zero (question_count done)) ∙ move done r rs (question_count done + q) in
    (λ i. only_if (test i) x ++ rest i) ∙ sym (keep_first (holds (question_count done + q) (span (done ++ r ∷ rs) (length done) f)) x (kept (done ++ r ∷ rs) (question_count done + q) (entries_from (suc (length done)) rs)))
by_spans q done (is.Withdrawal f ∷ rs) =
    let r = is.Withdrawal f in
    (λ i. fresh q (sym (number_next done r rs) i) (sym (alive-push done r) i) rs) ∙ by_spans q (done ++ r ∷ []) rs ∙ ap (λ n. kept ((done ++ r ∷ []) ++ rs) (n + q) (entries_from (length (done ++ r ∷ [])) rs)) (asked_next done r rs ∙ add-zero (question_count done)) ∙ move done r rs (question_count done + q)
by_spans zero done (is.Question x ∷ rs) =
    let r = is.Question x in
    let past : question_count done + 0 < question_count (done ++ r ∷ []) = omega (arith, asked_next done r rs) in
    sym (sym (move done r rs (question_count done + 0)) ∙ none_later (question_count done + 0) (done ++ r ∷ []) rs past)
by_spans (suc q) done (is.Question x ∷ rs) =
    let r = is.Question x in
    let count : question_count (done ++ r ∷ []) + q ≡ question_count done + suc q = omega (arith, asked_next done r rs) in
    (λ i. fresh q (sym (number_next done r rs) i) (sym (alive-push done r) i) rs) ∙ by_spans q (done ++ r ∷ []) rs ∙ ap (λ n. kept ((done ++ r ∷ []) ++ rs) n (entries_from (length (done ++ r ∷ [])) rs)) count ∙ move done r rs (question_count done + suc q)

pub alive_by_spans : AliveBySpans
alive_by_spans rs q h = split q 0 [] rs h ∙ by_spans q [] rs ∙ ap (λ n. kept rs n (entries_from 0 rs)) (zero-add q)
