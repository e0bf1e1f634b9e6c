use Rattle.std.proofs.Common.{◌≡◌, ℕ, ◌+◌, ◌-◌, ◌<◌, ◌≤◌, List, ◌++◌, map, length, get_or, drop, sym, ap, ◌∙◌, ⊎_elim, arith}
use Rattle.std.specs.List.{range_with_len}
use Rattle.std.proofs.lemmas.List.FromFn.{length-map-range_with_len, get_or-map-range_with_len}
use Rattle.std.proofs.lemmas.List.{ext_get_or, length-append, length-drop, get_or_append_left, get_or-append_right, get_or-drop}
use Rattle.std.proofs.lemmas.Bool.{cases_lt}
use Rattle.undoable.specs.declared.facts.Fact.{Fact}
use Rattle.undoable.specs.Kinds.{Kind}
use Rattle.book.specs.declared.records.Record.{Record}
use Rattle.book.specs.Records.{question_count}
use Rattle.book.specs.View.{records_of}
use Rattle.solver.specs.Solving.{answer_at, answers_for}
use Rattle.solver.proofs.Judged.{no_pieces}
use Rattle.solver.proofs.solving.answer_all.Goals as goal
use Rattle.solver.proofs.solving.answer_all.Goals.{in-Some, in_default}

-- a table that has the answers in front and is as before behind them
answered : (k : Kind) (st : List Fact) (rs : List Record) (old new : List ℕ) → length new ≡ length old → question_count rs ≤ length old → ((q : ℕ) → q < question_count rs → get_or new q 0 ≡ answer_at k st rs q) → ((q : ℕ) → question_count rs ≤ q → get_or new q 0 ≡ get_or old q 0) → new ≡ answers_for k st rs ++ drop (question_count rs) old
answered k st rs old new same long told others =
    let front = answers_for k st rs in
    let t = question_count rs in
    let n : length (answers_for k st rs) ≡ question_count rs = length-map-range_with_len (answer_at k st rs) 0 t in
    ext_get_or 0 new (front ++ drop t old) (omega (arith, same, length-append front (drop t old), length-drop t old, n))
    (λ i h.
    ⊎_elim
    (λ (l : i < question_count rs). told i l ∙ sym (get_or_append_left front (drop t old) 0 i (omega (arith, n)) ∙ get_or-map-range_with_len (answer_at k st rs) 0 t i i 0 l (omega arith)))
    (λ (l : question_count rs ≤ i).
    let at : question_count rs + (i - question_count rs) ≡ i = omega arith in
    others i l ∙ sym (get_or-append_right front (drop t old) t i 0 n l ∙ get_or-drop t old (i - t) 0 ∙ ap (λ j. get_or old j 0) at))
    (cases_lt i (question_count rs)))

pub returns-clause-answers : goal.returns-clause-answers
returns-clause-answers g c =
    let k = g.U.Undoable.kind c.args.structure.now in
    let st = g.U.Undoable.stack c.args.structure.now in
    let rs = records_of c.args.book.now in
    elim c.match-whole.branch [
      | in-Some w ↦
          answered k st rs c.args.answers.now c.match-whole.answers c.match-whole.auto.answers c.requires.accepted.long
          (λ q h. ap (λ l. get_or l q 0) w.answers-is ∙ w.answer_numbered.ensures.told q h)
          (λ q h. ap (λ l. get_or l q 0) w.answers-is ∙ w.answer_numbered.ensures.others q h ∙ w.number_questions.ensures.others q h)
      | in_default w ↦
          let none : question_count (records_of c.args.book.now) ≡ 0 = sym c.question_count.ensures ∙ w.in_default.ensures in
          w.answers-is ∙ sym (λ i. map (answer_at k st rs) (range_with_len 0 (none i)) ++ drop (none i) c.args.answers.now)
    ]

pub returns-clause-tally : goal.returns-clause-tally
returns-clause-tally g c =
    elim c.match-whole.branch [
      | in-Some w ↦ omega (arith, ap g.U.Undoable.pushes w.structure-is, w.answer_numbered.ensures.tally, c.tally.ensures, c.tally.type_inv)
      | in_default w ↦ omega (arith, ap g.U.Undoable.pushes w.structure-is, no_pieces (records_of c.args.book.now) (sym c.question_count.ensures ∙ w.in_default.ensures), c.tally.ensures, c.tally.type_inv)
    ]
