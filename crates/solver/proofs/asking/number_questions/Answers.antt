use Rattle.std.proofs.Common.{Bool, ◌≡◌, ◌<◌, ◌≢◌, length, get_or, set, is_some, sym, ap, ◌∙◌, ⊎_elim, arith, rules, tests}
use Rattle.std.proofs.lemmas.Bool.{cases_eq}
use Rattle.std.proofs.lemmas.List.{get_or-set_same, get_or-set_other, length_push}
use Rattle.std.proofs.lemmas.List.FromFn.{length-enumerate_from}
use Rattle.std.proofs.lemmas.List.Sums.{count_by-le-length}
use Rattle.std.proofs.lemmas.Iterator.Consumers.{YieldsList-at, YieldsList-from_enumerate, YieldsList-turn, YieldsList-end}
use Rattle.book.specs.declared.records.Record.{Record}
use Rattle.book.specs.Records.{is_question, question_count, question_in}
use Rattle.book.specs.Spans.{before}
use Rattle.book.specs.View.{records_of}
use Rattle.solver.proofs.Passing.{kept, kept_records, question_turn, questions_kept}
use Rattle.solver.proofs.Questions.{before_less}
use Rattle.solver.proofs.asking.number_questions.Goals as goal
use Rattle.solver.proofs.asking.number_questions.Goals.{In-Some}

abbrev asks : Record → Bool
asks r = is_some (question_in r)

-- the question of this turn
turn : (c : In-Some) → (c.in-Some.question ≡ length c.loop-question.yielded) × (c.in-Some.question < question_count (records_of c.args.book.now)) × (c.in-Some.number ≡ length (before c.in-Some.question (records_of c.args.book.now)))
turn c =
    question_turn (records_of c.args.book.now) (length c.loop-question.yielded) c.in-Some.question c.in-Some.number c.in-Some.field-0-1-1
    (YieldsList-turn
    (YieldsList-at c.into_iter-question-iterator.ensures.into_iter_gives (YieldsList-from_enumerate (YieldsList-at c.enumerate-question-items.ensures.source (kept_records _ asks c.filter-asked.ensures.source c.enumerate.ensures.source c.enumerate.ensures.count (records_of c.args.book.now) c.records.ensures.gives c.filter-asked.ensures.closure (λ x b q k. search (rules, tests)))) c.enumerate-question-items.ensures.count))
    c.loop-question.yielded c.loop-question.question-iterator c.loop-question.yielded_by c.next.result c.next.new.self (c.in-Some.question, (c.in-Some.number, c.in-Some.field-0-1-1)) c.in-Some.is c.next.ensures.steps)

-- after the last turn
all : (c : goal.In-None) → length c.loop-question.yielded ≡ question_count (records_of c.args.book.now)
all c =
    let end =
    (YieldsList-end
    (YieldsList-at c.into_iter-question-iterator.ensures.into_iter_gives (YieldsList-from_enumerate (YieldsList-at c.enumerate-question-items.ensures.source (kept_records _ asks c.filter-asked.ensures.source c.enumerate.ensures.source c.enumerate.ensures.count (records_of c.args.book.now) c.records.ensures.gives c.filter-asked.ensures.closure (λ x b q k. search (rules, tests)))) c.enumerate-question-items.ensures.count))
    c.loop-question.yielded c.loop-question.question-iterator c.loop-question.yielded_by c.next.result c.next.new.self c.in-None.is c.next.ensures.steps)
    in
    omega (arith, end.1, length-enumerate_from 0 (kept asks 0 (records_of c.args.book.now)), questions_kept 0 (records_of c.args.book.now))

pub overflow_cast-answers : goal.overflow_cast-answers
overflow_cast-answers c = omega (arith, turn c, before_less (records_of c.args.book.now) c.in-Some.question (turn c).1, c.records.ensures.few, ap length c.records.ensures.gives)

pub offset_bounds-answers-question : goal.offset_bounds-answers-question
offset_bounds-answers-question c = omega (arith, turn c, c.records.ensures.few, ap length c.records.ensures.gives, count_by-le-length is_question (records_of c.args.book.now))

pub bounds-answers-question : goal.bounds-answers-question
bounds-answers-question c = omega (arith, turn c, c.requires)

pub loop-question-preserved : goal.loop-question-preserved
loop-question-preserved c =
    let t = turn c in
    let n = length_push c.loop-question.yielded (c.in-Some.question, (c.in-Some.number, c.in-Some.field-0-1-1)) in
    let lt : c.in-Some.question < length c.loop-question.answers = omega (arith, t, c.requires) in (
      search rules,
      search rules,
      λ q h. ⊎_elim
          (λ (e : q ≡ c.in-Some.question). (λ i. get_or (set c.loop-question.answers c.in-Some.question c.in-Some.number) (e i) 0) ∙ get_or-set_same c.loop-question.answers c.in-Some.question c.in-Some.number 0 lt ∙ t.2 ∙ ap (λ k. length (before k (records_of c.args.book.now))) (sym e))
          (λ (ne : q ≢ c.in-Some.question). get_or-set_other c.loop-question.answers c.in-Some.question q c.in-Some.number 0 ne ∙ c.loop-question.invariant.2 q (omega (arith, n, t)))
          (cases_eq q c.in-Some.question),
      λ q h. let ne : q ≢ c.in-Some.question = omega (arith, n, t) in get_or-set_other c.loop-question.answers c.in-Some.question q c.in-Some.number 0 ne ∙ c.loop-question.invariant.3 q (omega (arith, n)),
    )

pub returns-clause-numbers : goal.returns-clause-numbers
returns-clause-numbers c = λ q h. c.loop-question.invariant.2 q (omega (arith, all c))

pub returns-clause-others : goal.returns-clause-others
returns-clause-others c = λ q h. c.loop-question.invariant.3 q (omega (arith, all c))
