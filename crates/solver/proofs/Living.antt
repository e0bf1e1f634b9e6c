-- The stack at a question holds, equally often, the facts alive there and those that it held before.
use Rattle.std.proofs.Common.{◌≡◌, ℕ, zero, suc, ◌+◌, ◌-◌, ◌*◌, ◌<◌, ◌≤◌, Bool, true, false, cond, ◌&&◌, ltb, leb, ◌⊎◌, List, [], ◌∷◌, ◌++◌, map, length, drop, replicate, sum_by, filter, Some, sym, refl, ap, ◌∙◌, inl, inr, ⊎_elim, arith}
use Rattle.std.specs.List.{AllByRecursion}
use Rattle.std.proofs.ByRecursion.{All-weaker}
use Rattle.std.proofs.lemmas.List.{map-append}
use Rattle.std.proofs.lemmas.List.Sums.{sum_by-cons, sum_by-append}
use Rattle.std.proofs.lemmas.Bool.{cases_Bool, cases_lt, cond-true, cond-false, le-leb, lt-leb, lt-ltb, le-ltb, and_from, and_left, and_right}
use Rattle.undoable.specs.declared.facts.Fact.{Fact}
use Rattle.undoable.specs.Kinds.{same, times, EquallyOften}
use Rattle.undoable.proofs.Orders.{Rearranged, none, keep, swap, then, rearranged}
use Rattle.book.specs.declared.records.Record.{Record}
use Rattle.book.specs.declared.records.Record.TheVariants as is
use Rattle.book.specs.Alive.{Entry}
use Rattle.book.specs.Records.{question_count}
use Rattle.book.specs.Spans.{span, fact_within, holds, entries_from}
use Rattle.book.proofs.Surviving.{alive_by_spans}
use Rattle.solver.specs.Folds.{onto, stack_to, sum_nodes}
use Rattle.solver.specs.Laid.{Spanned, laid, spanned}
use Rattle.solver.specs.Solving.{alive_at}
use Rattle.solver.specs.Tree.{middle}
use Rattle.solver.specs.Walks.{numbered_fact, first_fact}
use Rattle.solver.proofs.Covering.{pieces_partition}
use Rattle.solver.proofs.Descending.{by_halves}
use Rattle.solver.proofs.Entered.{entries_stand, sum_spanned}
use Rattle.solver.proofs.Levels.{stack_leaf, stack_left, stack_right}
use Rattle.solver.proofs.Sums.{sum_leaf, sum_node, sum_off, sum_laid}

-- rearranged lists have one length
same_length : {xs ys : List Fact} → Rearranged xs ys → length xs ≡ length ys
same_length none = refl
same_length (keep p) = ap (λ n. suc n) (same_length p)
same_length swap = refl
same_length (then p q) = same_length p ∙ same_length q

pub often_length : (xs ys : List Fact) → EquallyOften xs ys → length xs ≡ length ys
often_length xs ys e = same_length (rearranged xs ys e)

-- the fact of a record that enters it
numbered : (l : List Record) (f : Fact) → fact_within l ≡ Some f → first_fact l ≡ f
numbered [] f e = cc
numbered (is.Fact g ∷ l) f e = cc
numbered (is.Withdrawal g ∷ l) f e = cc
numbered (is.Question q ∷ l) f e = cc

module _ (rs : List Record) (q : ℕ) (f : Fact) where
  abbrev held : Entry → Bool
  held x = holds q (span rs x.number x.fact)

  abbrev counted : Entry → ℕ
  counted x = cond (same f (numbered_fact rs x.number) && held x) 1 0

  both : (a : Bool) → (a && true) ≡ a
  both true = refl
  both false = refl

  neither : (a : Bool) → (a && false) ≡ false
  neither true = refl
  neither false = refl

  kept_times : (xs : List Entry) → AllByRecursion (λ (x : Entry). numbered_fact rs x.number ≡ x.fact) xs → sum_by counted xs ≡ times f (map (λ x. x.fact) (filter held xs))
  kept_times [] a = refl
  kept_times (x ∷ xs) a =
      let rest = kept_times xs a.1 in
      let fs = map (λ (y : Entry). y.fact) (filter held xs) in
      sum_by-cons counted x xs
      ∙ ⊎_elim
      (λ (h : held x ≡ true).
      (λ i. cond (same f (a.0 i) && h i) 1 0 + rest i)
      ∙ ap (λ b. cond b 1 0 + times f fs) (both (same f x.fact))
      ∙ sym (sum_by-cons (λ y. cond (same f y) 1 0) x.fact fs)
      ∙ ap (λ (l : List Entry). times f (map (λ y. y.fact) l)) (sym (cond-true _ _ _ h)))
      (λ (h : held x ≡ false).
      (λ i. cond (same f (numbered_fact rs x.number) && h i) 1 0 + rest i)
      ∙ ap (λ b. cond b 1 0 + times f fs) (neither (same f (numbered_fact rs x.number)))
      ∙ omega arith
      ∙ ap (λ (l : List Entry). times f (map (λ y. y.fact) l)) (sym (cond-false _ _ _ h)))
      (cases_Bool (held x))

  alive_times : q < question_count rs → sum_by counted (entries_from 0 rs) ≡ times f (alive_at rs q)
  alive_times h = kept_times (entries_from 0 rs) (All-weaker _ _ (λ x e. numbered (drop x.number rs) x.fact e) (entries_from 0 rs) (entries_stand rs 0 rs refl)) ∙ ap (λ (l : List Entry). times f (map (λ y. y.fact) l)) (sym (alive_by_spans rs q h))

-- how often the stack at a question holds a fact: as often as the nodes that cover the question have it, and the stack below
times-onto : (f : Fact) (fs st : List Fact) → times f (onto fs st) ≡ times f fs + times f st
times-onto f [] st = omega arith
times-onto f (x ∷ fs) st = omega (arith, times-onto f fs (x ∷ st), sum_by-cons (λ y. cond (same f y) 1 0) x st, sum_by-cons (λ y. cond (same f y) 1 0) x fs)

module _ (f : Fact) (g : ℕ → List Fact) (q : ℕ) where
  abbrev covered : ℕ → ℕ → Bool
  covered lo hi = leb lo q && ltb q hi

  abbrev own : ℕ → ℕ
  own m = times f (g m)

  here : (m lo hi : ℕ) → lo ≤ q → q < hi → cond (covered lo hi) (own m) 0 ≡ own m
  here m lo hi a b = cond-true _ _ _ (and_from _ _ (le-leb lo q a) (lt-ltb q hi b))

  off : (m lo hi : ℕ) → lo < hi → (q < lo) ⊎ (hi ≤ q) → sum_nodes covered own m lo hi ≡ 0
  off =
      sum_off covered own (λ lo hi. (q < lo) ⊎ (hi ≤ q))
      (λ lo hi c. ⊎_elim (λ a. and_left _ _ (lt-leb lo q a)) (λ b. and_right _ _ (le-ltb q hi b)) c)
      (λ lo hi two c. (⊎_elim (λ (a : q < lo). inl a) (λ (b : hi ≤ q). inr (omega arith)) c, ⊎_elim (λ (a : q < lo). inl (omega arith)) (λ (b : hi ≤ q). inr b) c))

  times_stack : (m lo hi : ℕ) → lo < hi → (st : List Fact) → lo ≤ q → q < hi → times f (stack_to g m lo hi q st) ≡ sum_nodes covered own m lo hi + times f st
  times_stack =
      by_halves (λ m lo hi. (st : List Fact) → lo ≤ q → q < hi → times f (stack_to g m lo hi q st) ≡ sum_nodes covered own m lo hi + times f st)
      (λ m lo hi l one st a b. omega (arith, ap (times f) (stack_leaf g q m lo hi l one st), times-onto f (g m) st, sum_leaf covered own m lo hi l one, here m lo hi a b))
      (λ m lo hi two left right st a b.
      let up = onto (g m) st in
      let mid = middle lo hi in
      let all = sum_node covered own m lo hi two in
      ⊎_elim
      (λ (h : q < middle lo hi).
      omega (arith, ap (times f) (stack_left g q m lo hi two st h), left up a h, times-onto f (g m) st, all, here m lo hi a b, off (m + 2 * (middle lo hi - lo)) mid hi (omega arith) (inl h)))
      (λ (h : middle lo hi ≤ q).
      omega (arith, ap (times f) (stack_right g q m lo hi two st h), right up h b, times-onto f (g m) st, all, here m lo hi a b, off (m + 1) lo mid (omega arith) (inr h)))
      (cases_lt q (middle lo hi)))

times_copies : (F : ℕ → Fact) (f : Fact) (n i : ℕ) → times f (map F (replicate n i)) ≡ cond (same f (F i)) n 0
times_copies F f zero i = nothing (same f (F i))
  where
    nothing : (b : Bool) → 0 ≡ cond {A = ℕ} b 0 0
    nothing true = refl
    nothing false = refl
times_copies F f (suc n) i =
    sum_by-cons (λ y. cond (same f y) 1 0) (F i) (map F (replicate n i)) ∙ ap (λ k. cond (same f (F i)) 1 0 + k) (times_copies F f n i) ∙ one (same f (F i))
  where
    one : (b : Bool) → cond {A = ℕ} b 1 0 + cond b n 0 ≡ cond b (suc n) 0
    one true = omega arith
    one false = refl

times_both : (F : ℕ → Fact) (f : Fact) (xs ys : List ℕ) → times f (map F (xs ++ ys)) ≡ times f (map F xs) + times f (map F ys)
times_both F f xs ys = ap (times f) (map-append F xs ys) ∙ sum_by-append (λ y. cond (same f y) 1 0) (map F xs) (map F ys)

-- what is laid on the nodes that cover the question are the facts whose span holds it
laid_times : (F : ℕ → Fact) (f : Fact) (t q : ℕ) → q < t → (xs : List Spanned) → sum_nodes (λ lo hi. leb lo q && ltb q hi) (λ m. times f (map F (laid t xs m))) 0 0 t ≡ sum_by (λ x. cond (same f (F x.number) && (leb x.span.0 q && ltb q x.span.1)) 1 0) xs
laid_times F f t q h xs =
    sum_laid (λ lo hi. leb lo q && ltb q hi) t (omega arith) (λ l. times f (map F l)) (λ i. same f (F i)) refl (times_both F f) (times_copies F f) xs
    ∙ (λ i. sum_by (λ x. (ap (λ n. cond (same f (F x.number)) n 0) (pieces_partition t x.span.0 x.span.1 q h) ∙ both (same f (F x.number)) (leb x.span.0 q && ltb q x.span.1)) i) xs)
  where
    both : (a c : Bool) → ◌≡◌ {A = ℕ} (cond a (cond c 1 0) 0) (cond (a && c) 1 0)
    both true c = refl
    both false c = refl

pub living : (rs : List Record) (q : ℕ) → q < question_count rs → (g : ℕ → List Fact) → ((m : ℕ) → g m ≡ map (numbered_fact rs) (laid (question_count rs) (spanned rs) m)) → (st : List Fact) → EquallyOften (stack_to g 0 0 (question_count rs) q st) (alive_at rs q ++ st)
living rs q h g e st f =
    let t = question_count rs in
    let F = numbered_fact rs in
    let xs = spanned rs in
    times_stack f g q 0 0 t (omega arith) st (omega arith) h
    ∙ ap (λ n. n + times f st) ((λ i. sum_nodes (λ lo hi. leb lo q && ltb q hi) (λ m. times f (e m i)) 0 0 t) ∙ laid_times F f t q h xs ∙ sum_spanned rs (λ x. cond (same f (F x.number) && (leb x.span.0 q && ltb q x.span.1)) 1 0) ∙ alive_times rs q f h)
    ∙ sym (sum_by-append (λ y. cond (same f y) 1 0) (alive_at rs q) st)
