-- If no record is unfit, all facts of the book are admitted: those alive at a question, and those laid at a node.
use Rattle.std.proofs.Common.{◌≡◌, ℕ, zero, suc, ◌+◌, ◌<◌, ◌≤◌, Bool, true, false, not, List, [], ◌∷◌, map, length, drop, replicate, Some, None, IsSomeAnd, sym, refl, ap, ◌∙◌, subst, ⊎_elim, arith}
use Rattle.std.specs.List.{AllByRecursion}
use Rattle.std.proofs.ByRecursion.{All-append, All-map, All-weaker, all_kept_by}
use Rattle.std.proofs.lemmas.List.{drop_all}
use Rattle.std.proofs.lemmas.Bool.{cases_lt, cases_Bool, cond-true, cond-false}
use Rattle.undoable.specs.declared.facts.Fact.{Fact}
use Rattle.undoable.specs.Kinds.{Kind, Admitted}
use Rattle.book.specs.declared.records.Record.{Record}
use Rattle.book.specs.declared.records.Record.TheVariants as is
use Rattle.book.specs.Alive.{Entry}
use Rattle.book.specs.Records.{question_count}
use Rattle.book.specs.Spans.{span, fact_within, holds, entries_from, holding, first_from}
use Rattle.book.proofs.Surviving.{alive_by_spans}
use Rattle.solver.specs.Chains.{times_in}
use Rattle.solver.specs.Folds.{numbers_of}
use Rattle.solver.specs.Laid.{Spanned, laid, spanned}
use Rattle.solver.specs.Solving.{alive_at, first_suits, first_unsuited}
use Rattle.solver.specs.Walks.{EntersAdmitted}
use Rattle.solver.proofs.Entered.{entries_stand}

pub none_found : (p : ℕ → Bool) (n m : ℕ) → first_from p n m ≡ None → (i : ℕ) → m ≤ i → i < m + n → p i ≡ false
none_found p zero m e i a b = absurd (omega arith)
none_found p (suc n) m e i a b =
    ⊎_elim
    (λ (h : p m ≡ true).
    let found : Some m ≡ None = sym (cond-true _ _ _ h) ∙ e in
    let z : ◌≡◌ {A = ℕ} 0 1 = cc in
    absurd (omega arith))
    (λ (h : p m ≡ false).
    ⊎_elim
    (λ (l : m < i). none_found p n (suc m) (sym (cond-false _ _ _ h) ∙ e) i (omega arith) (omega arith))
    (λ (l : i ≤ m). let here : i ≡ m = omega arith in ap p here ∙ h)
    (cases_lt m i))
    (cases_Bool (p m))

not_not : (b : Bool) → not b ≡ false → b ≡ true
not_not true e = refl
not_not false e = sym e

module _ (k : Kind) (rs : List Record) (none : first_unsuited k rs ≡ None) where
  pub all_suit : (n : ℕ) → first_suits k (drop n rs) ≡ true
  all_suit n =
      ⊎_elim
      (λ (l : n < length rs). not_not (first_suits k (drop n rs)) (none_found (λ i. not (first_suits k (drop i rs))) (length rs) 0 none n (omega arith) (omega arith)))
      (λ (l : length rs ≤ n). ap (first_suits k) (drop_all n rs l))
      (cases_lt n (length rs))

  fits : (l : List Record) (f : Fact) → fact_within l ≡ Some f → first_suits k l ≡ true → k.admits f ≡ true
  fits [] f e s = cc
  fits (is.Fact g ∷ l) f e s = let same : g ≡ f = cc in ap k.admits (sym same) ∙ s
  fits (is.Withdrawal g ∷ l) f e s = cc
  fits (is.Question q ∷ l) f e s = cc

  entries_fit : AllByRecursion (λ (x : Entry). k.admits x.fact ≡ true) (entries_from 0 rs)
  entries_fit = All-weaker _ _ (λ x e. fits (drop x.number rs) x.fact e (all_suit x.number)) (entries_from 0 rs) (entries_stand rs 0 rs refl)

  spanned_fit : AllByRecursion (λ x. EntersAdmitted k rs x.number) (spanned rs)
  spanned_fit =
      All-map _ (λ (x : Entry). record { number = x.number; span = span rs x.number x.fact }) (entries_from 0 rs)
      (All-weaker _ _ (λ x e. subst (λ o. IsSomeAnd o (λ f. k.admits f ≡ true)) (sym e) (fits (drop x.number rs) x.fact e (all_suit x.number))) (entries_from 0 rs) (entries_stand rs 0 rs refl))

  copies_fit : (c i : ℕ) → EntersAdmitted k rs i → AllByRecursion (EntersAdmitted k rs) (replicate c i)
  copies_fit zero i h = tt
  copies_fit (suc c) i h = (h, copies_fit c i h)

  numbers_fit : (t : ℕ) (xs : List Spanned) → AllByRecursion (λ x. EntersAdmitted k rs x.number) xs → (m : ℕ) → AllByRecursion (EntersAdmitted k rs) (laid t xs m)
  numbers_fit t [] a m = tt
  numbers_fit t (x ∷ xs) a m = All-append _ (laid t xs m) (replicate (times_in m (numbers_of x.span 0 0 t)) x.number) (numbers_fit t xs a.1 m) (copies_fit (times_in m (numbers_of x.span 0 0 t)) x.number a.0)

  pub laid_admitted : (t m : ℕ) → AllByRecursion (EntersAdmitted k rs) (laid t (spanned rs) m)
  laid_admitted t m = numbers_fit t (spanned rs) spanned_fit m

  pub alive_admitted : (q : ℕ) → q < question_count rs → Admitted k (alive_at rs q)
  alive_admitted q h =
      let held = all_kept_by (λ x. holds q (span rs x.number x.fact)) (λ (x : Entry). k.admits x.fact ≡ true) (entries_from 0 rs) entries_fit in
      subst (λ (l : List Entry). Admitted k (map (λ x. x.fact) l)) (sym (alive_by_spans rs q h)) (All-map (λ f. k.admits f ≡ true) (λ (x : Entry). x.fact) (holding rs q) held)
