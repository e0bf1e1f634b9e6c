use Rattle.std.proofs.Common.{◌≡◌, ℕ, ◌+◌, ◌%◌, ◌^◌, List, ◌++◌, length, drop, cond, is_ok, Ok, Result, sym, refl, ap, ◌∙◌}
use Rattle.std.proofs.lemmas.Result.{err_from_is_err_and}
use Rattle.undoable.specs.declared.facts.Fact.{Fact}
use Rattle.undoable.specs.Kinds.{Kind}
use Rattle.book.specs.declared.records.Record.{Record}
use Rattle.book.specs.Records.{question_count}
use Rattle.book.specs.View.{records_of}
use Rattle.solver.specs.declared.refusals.SolveError.{SolveError}
use Rattle.solver.specs.Solving.{Sizes, answers_for, judge_solve, piece_total, solve_table, solve_tally, solved_by}
use Rattle.solver.proofs.solving.solve.Given as given
use Rattle.solver.proofs.solving.solve.Goals as goal
use Rattle.solver.proofs.solving.solve.Goals.{After-new-tables}

-- what the answers table and the tally are, by what was judged
table : (k : Kind) (st : List Fact) (rs : List Record) (z : Sizes) (old : List ℕ) (r : Result ℕ SolveError) → r ≡ judge_solve k st rs z → cond (is_ok r) (answers_for k st rs ++ drop (question_count rs) old) old ≡ solve_table k st rs z old
table k st rs z old r e = ap (λ x. cond (is_ok x) (answers_for k st rs ++ drop (question_count rs) old) old) e

tally : (k : Kind) (st : List Fact) (rs : List Record) (z : Sizes) (t : ℕ) (r : Result ℕ SolveError) → r ≡ judge_solve k st rs z → cond (is_ok r) ((t + piece_total rs) % 2 ^ 32) t ≡ solve_tally k st rs z t
tally k st rs z t r e = ap (λ x. cond (is_ok x) ((t + piece_total rs) % 2 ^ 32) t) e

-- the tables as they are lent
module _ (g : given.Over) (c : After-new-tables g) where
  abbrev k : Kind
  k = g.U.Undoable.kind c.args.structure.now

  abbrev st : List Fact
  st = g.U.Undoable.stack c.args.structure.now

  abbrev rs : List Record
  rs = records_of c.args.book.now

  abbrev z : Sizes
  z = record { answers = length c.args.answers.now; spans = length c.args.spans.now; nodes = length c.args.nodes.now; pieces = length c.args.pieces.now }

pub returns-in_err-additions-clause-result : goal.returns-in_err-additions-clause-result
returns-in_err-additions-clause-result g c =
    let d = (goal.at.returns-in_err-additions-clause-result g c).After-new-tables in
    let t = c.new-tables.ensures in
    let p = err_from_is_err_and c.from_residual.result c.from_residual.ensures.1 in
    rw (p.1, p.2) (ap (solved_by (rs g d)) (c.in_err-additions.ensures.result (z g d) refl (sym t.spans, sym t.nodes, sym t.pieces)))

pub returns-in_err-additions-clause-answers : goal.returns-in_err-additions-clause-answers
returns-in_err-additions-clause-answers g c =
    let d = (goal.at.returns-in_err-additions-clause-answers g c).After-new-tables in
    let t = c.new-tables.ensures in
    table (k g d) (st g d) (rs g d) (z g d) c.args.answers.now _ (c.in_err-additions.ensures.result (z g d) refl (sym t.spans, sym t.nodes, sym t.pieces))

pub returns-in_err-additions-clause-tally : goal.returns-in_err-additions-clause-tally
returns-in_err-additions-clause-tally g c =
    let d = (goal.at.returns-in_err-additions-clause-tally g c).After-new-tables in
    let t = c.new-tables.ensures in
    tally (k g d) (st g d) (rs g d) (z g d) (g.U.Undoable.pushes c.args.structure.now) _ (c.in_err-additions.ensures.result (z g d) refl (sym t.spans, sym t.nodes, sym t.pieces))

pub returns-clause-result : goal.returns-clause-result
returns-clause-result g c =
    let d = (goal.at.returns-clause-result g c).After-new-tables in
    let t = c.new-tables.ensures in
    let s = c.summary-summary.ensures in
    (λ i. Ok (record { questions = s.questions i; additions = c.in_ok-additions.additions; deepest = s.deepest i }))
    ∙ ap (solved_by (rs g d)) (c.in_ok-additions.ensures.result (z g d) refl (sym t.spans, sym t.nodes, sym t.pieces))

pub returns-clause-answers : goal.returns-clause-answers
returns-clause-answers g c =
    let d = (goal.at.returns-clause-answers g c).After-new-tables in
    let t = c.new-tables.ensures in
    c.answer_all.ensures.answers ∙ table (k g d) (st g d) (rs g d) (z g d) c.args.answers.now _ (c.in_ok-additions.ensures.result (z g d) refl (sym t.spans, sym t.nodes, sym t.pieces))

pub returns-clause-tally : goal.returns-clause-tally
returns-clause-tally g c =
    let d = (goal.at.returns-clause-tally g c).After-new-tables in
    let t = c.new-tables.ensures in
    c.answer_all.ensures.tally ∙ tally (k g d) (st g d) (rs g d) (z g d) (g.U.Undoable.pushes c.args.structure.now) _ (c.in_ok-additions.ensures.result (z g d) refl (sym t.spans, sym t.nodes, sym t.pieces))
