-- The stack at a question gives the answer for the facts alive there, and there is room for it.
use Rattle.std.proofs.Common.{◌≡◌, ℕ, ◌+◌, ◌<◌, ◌≤◌, ltb, true, List, ◌++◌, map, length, drop, replicate, count_by, sum_by, None, sym, refl, ap, ◌∙◌, subst, arith}
use Rattle.std.specs.List.{AllByRecursion}
use Rattle.std.proofs.ByRecursion.{All-append}
use Rattle.std.proofs.lemmas.List.{length-append, length-map, length-replicate, map-append}
use Rattle.std.proofs.lemmas.List.Recursion.{is_count_by}
use Rattle.std.proofs.lemmas.Bool.{ltb-false}
use Rattle.undoable.specs.declared.facts.Fact.{Fact}
use Rattle.undoable.specs.Kinds.{Kind, Admitted, EquallyOften, OrderBlind}
use Rattle.book.specs.declared.records.Record.{Record}
use Rattle.book.specs.Alive.{Entry, alive}
use Rattle.book.specs.Records.{question_count}
use Rattle.book.specs.Spans.{before, first_crowded}
use Rattle.solver.specs.Folds.{stack_to, sum_nodes, weight}
use Rattle.solver.specs.Laid.{Spanned, laid, spanned}
use Rattle.solver.specs.Solving.{alive_at, question_at, answer_at, piece_total, first_unsuited}
use Rattle.solver.specs.Tree.{Node, pieces_of}
use Rattle.solver.specs.Walks.{AsksAdmitted, EntersAdmitted, facts_of, numbered_fact}
use Rattle.solver.proofs.Entered.{sum_spanned}
use Rattle.solver.proofs.Living.{living, often_length}
use Rattle.solver.proofs.Questions.{asks_admitted, asked_admits}
use Rattle.solver.proofs.Suiting.{none_found, all_suit, alive_admitted, laid_admitted}
use Rattle.solver.proofs.Sums.{sum_laid}

module _ (k : Kind) (st : List Fact) (rs : List Record) (lists : ℕ → List ℕ) (placed : (m : ℕ) → lists m ≡ laid (question_count rs) (spanned rs) m) where
  abbrev g : ℕ → List Fact
  g = facts_of rs lists

  at_node : (m : ℕ) → g m ≡ map (numbered_fact rs) (laid (question_count rs) (spanned rs) m)
  at_node m = ap (map (numbered_fact rs)) (placed m)

  often : (q : ℕ) → q < question_count rs → EquallyOften (stack_to g 0 0 (question_count rs) q st) (alive_at rs q ++ st)
  often q h = living rs q h g at_node st

  pub node_admitted : first_unsuited k rs ≡ None → (m : ℕ) → AllByRecursion (EntersAdmitted k rs) (lists m)
  node_admitted fit m = subst (AllByRecursion (EntersAdmitted k rs)) (sym (placed m)) (laid_admitted k rs fit (question_count rs) m)

  pub stack_room : first_crowded rs (length st) k.capacity ≡ None → (q : ℕ) → q < question_count rs → length (stack_to g 0 0 (question_count rs) q st) ≤ k.capacity
  stack_room free q h =
      let fits = ltb-false k.capacity (length st + length (alive (before q rs))) (none_found (λ n. ltb k.capacity (length st + length (alive (before n rs)))) (question_count rs) 0 free q (omega arith) (omega arith)) in
      omega (arith, fits, often_length (stack_to g 0 0 (question_count rs) q st) (alive_at rs q ++ st) (often q h), length-append (alive_at rs q) st, length-map (alive (before q rs)) (λ (x : Entry). x.fact))

  pub question_admitted : first_unsuited k rs ≡ None → (q : ℕ) → q < question_count rs → AsksAdmitted k rs (length (before q rs))
  question_admitted fit q h = asks_admitted k rs q h (all_suit k rs fit (length (before q rs)))

  pub stack_answer : first_unsuited k rs ≡ None → OrderBlind k → Admitted k st → (q : ℕ) → q < question_count rs → k.rule (stack_to g 0 0 (question_count rs) q st) (question_at rs q) ≡ answer_at k st rs q
  stack_answer fit law held q h =
      sym (law (alive_at rs q ++ st) (stack_to g 0 0 (question_count rs) q st) (All-append _ (alive_at rs q) st (alive_admitted k rs fit q h) held) (λ f. sym (often q h f)) (question_at rs q) (asked_admits k (drop (length (before q rs)) rs) (question_admitted fit q h)))

  pub pushed : 0 < question_count rs → weight g 0 0 (question_count rs) ≡ piece_total rs
  pushed some =
      let t = question_count rs in
      let F = numbered_fact rs in
      (λ i. sum_nodes (λ _ _. true) (λ m. length (at_node m i)) 0 0 t)
      ∙ sum_laid (λ _ _. true) t some (λ l. length (map F l)) (λ _. true) refl (λ xs ys. ap length (map-append F xs ys) ∙ length-append (map F xs) (map F ys)) (λ n i. length-map (replicate n i) F ∙ length-replicate n i) (spanned rs)
      ∙ (λ i. sum_by (λ (x : Spanned). sym (all (pieces_of t x.span)) i) (spanned rs))
      ∙ sum_spanned rs (λ x. length (pieces_of t x.span))
    where
      all : (vs : List Node) → length vs ≡ count_by (λ _. true) vs
      all = is_count_by length (λ _. true) refl (λ v vs. omega arith)
