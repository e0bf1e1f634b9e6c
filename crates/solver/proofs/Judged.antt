-- Which test of solve refuses, and what is known if none does.
use Rattle.std.proofs.Common.{◌≡◌, ℕ, ◌*◌, ◌<◌, ◌≤◌, cond, ltb, List, [], ◌∷◌, length, Some, None, Ok, Err, sum_by, Option, Result, sym, refl, ap, ◌∙◌, ⊎_elim, arith}
use Rattle.std.specs.List.{AllByRecursion}
use Rattle.std.proofs.lemmas.List.Sums.{sum_by-cons}
use Rattle.std.proofs.ByRecursion.{sum_by_le}
use Rattle.std.proofs.lemmas.Bool.{cases_lt, cond-true, cond-false, lt-ltb, le-ltb}
use Rattle.undoable.specs.declared.facts.Fact.{Fact}
use Rattle.undoable.specs.Kinds.{Kind}
use Rattle.book.specs.declared.records.Record.{Record}
use Rattle.book.specs.Alive.{Entry}
use Rattle.book.specs.Records.{fact_count, question_count}
use Rattle.book.specs.Spans.{span, entries_from, first_crowded}
use Rattle.solver.specs.declared.refusals.SolveError.{SolveError}
use Rattle.solver.specs.declared.refusals.SolveRefusal.{SolveRefusal}
use Rattle.solver.specs.declared.refusals.SolveRefusal.TheVariants.{AnswersShort, NotAdmitted, TableShort, TooHigh}
use Rattle.solver.specs.Solving.{Sizes, piece_total, first_unsuited, table_too_short, refused_at, judge_tables, judge_solve}
use Rattle.solver.specs.Tree.{pieces_of}
use Rattle.solver.proofs.Entered.{entered_count}

module _ (k : Kind) (st : List Fact) (rs : List Record) (z : Sizes) where
  abbrev high : Result ℕ SolveError
  high = refused_at TooHigh (first_crowded rs (length st) k.capacity) (Ok (piece_total rs))

  by_table : (o : Option ℕ) → table_too_short rs z ≡ o → judge_tables k st rs z ≡ refused_at TableShort o high
  by_table o e = ap (λ x. refused_at TableShort x high) e

  pub short_spans : z.spans < 2 * fact_count rs → judge_tables k st rs z ≡ Err (record { refusal = TableShort; place = 0 })
  short_spans h = by_table (Some 0) (cond-true _ _ _ (lt-ltb _ _ h))

  module _ (spans : 2 * fact_count rs ≤ z.spans) where
    past_spans : table_too_short rs z ≡ cond (ltb z.nodes (4 * question_count rs)) (Some 1) (cond (ltb z.pieces (2 * piece_total rs)) (Some 2) None)
    past_spans = cond-false _ _ _ (le-ltb _ _ spans)

    pub short_nodes : z.nodes < 4 * question_count rs → judge_tables k st rs z ≡ Err (record { refusal = TableShort; place = 1 })
    short_nodes h = by_table (Some 1) (past_spans ∙ cond-true _ _ _ (lt-ltb _ _ h))

    module _ (nodes : 4 * question_count rs ≤ z.nodes) where
      past_nodes : table_too_short rs z ≡ cond (ltb z.pieces (2 * piece_total rs)) (Some 2) None
      past_nodes = past_spans ∙ cond-false _ _ _ (le-ltb _ _ nodes)

      pub short_pieces : z.pieces < 2 * piece_total rs → judge_tables k st rs z ≡ Err (record { refusal = TableShort; place = 2 })
      short_pieces h = by_table (Some 2) (past_nodes ∙ cond-true _ _ _ (lt-ltb _ _ h))

      pub long_tables : 2 * piece_total rs ≤ z.pieces → judge_tables k st rs z ≡ high
      long_tables h = by_table None (past_nodes ∙ cond-false _ _ _ (le-ltb _ _ h))

  pub short_answers : z.answers < question_count rs → judge_solve k st rs z ≡ Err (record { refusal = AnswersShort; place = 0 })
  short_answers h = cond-true _ _ _ (lt-ltb _ _ h)

  pub long_answers : question_count rs ≤ z.answers → (o : Option ℕ) → first_unsuited k rs ≡ o → judge_solve k st rs z ≡ refused_at NotAdmitted o (judge_tables k st rs z)
  long_answers h o e = cond-false _ _ _ (le-ltb _ _ h) ∙ ap (λ x. refused_at NotAdmitted x (judge_tables k st rs z)) e

  -- an accepted solve: no test refused it
  refused_not : (x : SolveRefusal) (o : Option ℕ) (r : Result ℕ SolveError) (n : ℕ) → refused_at x o r ≡ Ok n → o ≡ None
  refused_not x None r n e = refl
  refused_not x (Some p) r n e = let z : ◌≡◌ {A = ℕ} 0 1 = cc in absurd (omega arith)

  pub accepted_long : (n : ℕ) → judge_solve k st rs z ≡ Ok n → question_count rs ≤ z.answers
  accepted_long n e =
      ⊎_elim
      (λ (h : z.answers < question_count rs). let bad = sym (short_answers h) ∙ e in let z : ◌≡◌ {A = ℕ} 0 1 = cc in absurd (omega arith))
      (λ h. h)
      (cases_lt z.answers (question_count rs))

  pub accepted_fits : (n : ℕ) → judge_solve k st rs z ≡ Ok n → first_unsuited k rs ≡ None
  accepted_fits n e = refused_not NotAdmitted (first_unsuited k rs) (judge_tables k st rs z) n (sym (long_answers (accepted_long n e) (first_unsuited k rs) refl) ∙ e)

-- a bound on the pieces of each span bounds those of all together
pub pieces_most : (rs : List Record) (m : ℕ) → ((s e : ℕ) → length (pieces_of (question_count rs) (s, e)) ≤ m) → piece_total rs ≤ fact_count rs * m
pieces_most rs m each = omega (arith, sum_by_le (λ (x : Entry). length (pieces_of (question_count rs) (span rs x.number x.fact))) m (entries_from 0 rs) (all (entries_from 0 rs)), ap (λ n. n * m) (entered_count 0 rs))
  where
    all : (xs : List Entry) → AllByRecursion (λ (x : Entry). length (pieces_of (question_count rs) (span rs x.number x.fact)) ≤ m) xs
    all [] = tt
    all (x ∷ xs) = (each (span rs x.number x.fact).0 (span rs x.number x.fact).1, all xs)

-- a book without questions has no pieces
sum_none : {X : Type 0} (w : X → ℕ) → ((x : X) → w x ≡ 0) → (xs : List X) → sum_by w xs ≡ 0
sum_none w z [] = refl
sum_none w z (x ∷ xs) = omega (arith, sum_by-cons w x xs, z x, sum_none w z xs)

pub no_pieces : (rs : List Record) → question_count rs ≡ 0 → piece_total rs ≡ 0
no_pieces rs e = sum_none (λ (x : Entry). length (pieces_of (question_count rs) (span rs x.number x.fact))) (λ x. ap (λ t. length (pieces_of t (span rs x.number x.fact))) e) (entries_from 0 rs)
