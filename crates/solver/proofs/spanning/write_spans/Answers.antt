use Rattle.std.proofs.Common.{◌≡◌, ℕ, ◌<◌, ◌≤◌, ◌≢◌, List, [], ◌∷◌, map, length, get_or, set, take, sum_by, sym, ap, ◌∙◌, ⊎_elim, arith, rules, tests}
use Rattle.std.specs.List.{enumerate_from, filter_map}
use Rattle.std.proofs.lemmas.List.FromFn.{length-enumerate_from}
use Rattle.std.proofs.lemmas.List.{length-map, get_or-map, get_or-set_same, get_or-set_other, length_push, take_all}
use Rattle.std.proofs.lemmas.Bool.{cases_eq}
use Rattle.std.proofs.lemmas.List.Sums.{count_by-le-length, sum_by_more}
use Rattle.std.proofs.lemmas.Iterator.Consumers.{YieldsList-at, YieldsList-from_first, YieldsList-from_enumerate, YieldsList-from_filter_map, YieldsList-turn, YieldsList-end}
use Rattle.book.specs.declared.records.Record.{Record}
use Rattle.book.specs.Listed.{listed}
use Rattle.book.specs.Records.{is_fact, is_question, question_count}
use Rattle.book.specs.Spans.{span_at}
use Rattle.book.specs.View.{records_of}
use Rattle.solver.specs.Laid.{Spanned, spanned}
use Rattle.solver.specs.Tree.{pieces_of}
use Rattle.solver.proofs.Agreeing.{pieces_at_most}
use Rattle.solver.proofs.Entered.{span_turn, spanned_count, spans_passed, spanned_within, sum_spanned}
use Rattle.solver.proofs.spanning.write_spans.Goals as goal
use Rattle.solver.proofs.spanning.write_spans.Goals.{In-Some, After-piece_count-total}

-- the pair of a span, and how many pieces it has
abbrev pair : Spanned → List ℕ
pair x = x.span.0 ∷ (x.span.1 ∷ [])

abbrev pieces_in : List Record → Spanned → ℕ
pieces_in rs x = length (pieces_of (question_count rs) x.span)

-- what is read beyond a list
abbrev any : Spanned
any = record { number = 0; span = (0, 0) }

-- the span of this turn
turn : (c : In-Some) → (c.in-Some.fact ≡ length c.loop-fact.yielded) × (length c.loop-fact.yielded < length (spanned (records_of c.args.book.now))) × ((c.in-Some.start, c.in-Some.end) ≡ (get_or (spanned (records_of c.args.book.now)) (length c.loop-fact.yielded) any).span)
turn c =
    span_turn (records_of c.args.book.now) (length c.loop-fact.yielded) c.in-Some.fact c.in-Some.start c.in-Some.end any
    (YieldsList-turn
    (YieldsList-at c.into_iter-fact-iterator.ensures.into_iter_gives (YieldsList-from_enumerate (YieldsList-at c.enumerate-fact-items.ensures.source (YieldsList-from_filter_map _ (λ p. span_at (records_of c.args.book.now) p.0) (YieldsList-at c.filter_map-facts.ensures.source (YieldsList-from_enumerate (YieldsList-at c.enumerate.ensures.source (YieldsList-from_first (λ x. x) listed (records_of c.args.book.now) c.records.ensures.gives)) c.enumerate.ensures.count)) c.filter_map-facts.ensures.closure (λ x r q k. search (rules, tests)))) c.enumerate-fact-items.ensures.count))
    c.loop-fact.yielded c.loop-fact.fact-iterator c.loop-fact.yielded_by c.next.result c.next.new.self (c.in-Some.fact, (c.in-Some.start, c.in-Some.end)) c.in-Some.is c.next.ensures.steps)

most : (c : In-Some) → (c.in-Some.start ≤ 4096) × (c.in-Some.end ≤ 4096)
most c =
    let rs = records_of c.args.book.now in
    let few : question_count (records_of c.args.book.now) ≤ 4096 = omega (arith, count_by-le-length is_question rs, c.records.ensures.few, ap length c.records.ensures.gives) in
    let t = turn c in
    let w = spanned_within rs (length c.loop-fact.yielded) any t.1 in
    (omega (arith, w.1, few, ap (λ x. x.0) t.2), omega (arith, w.2, few, ap (λ x. x.1) t.2))

pub overflow_cast-spans : goal.overflow_cast-spans
overflow_cast-spans c = omega (arith, most c)

pub overflow_cast-spans-in-loop-fact : goal.overflow_cast-spans-in-loop-fact
overflow_cast-spans-in-loop-fact c = omega (arith, most c)

pub offset_bounds-spans-fact : goal.offset_bounds-spans-fact
offset_bounds-spans-fact c = omega (arith, turn c, spanned_count (records_of c.args.book.now), count_by-le-length is_fact (records_of c.args.book.now), c.records.ensures.few, ap length c.records.ensures.gives)

pub bounds-spans-fact : goal.bounds-spans-fact
bounds-spans-fact c = omega (arith, turn c, c.requires, spanned_count (records_of c.args.book.now))

-- how many pieces there are by now
few : (c : After-piece_count-total) → (c.piece_count-total.result ≤ 4096) × (length c.loop-fact.yielded < 4096)
few c =
    let rs = records_of c.args.book.now in
    let n : length (records_of c.args.book.now) ≤ 4096 = omega (arith, c.records.ensures.few, ap length c.records.ensures.gives) in
    let t = turn (goal.at.overflow_add-total c).In-Some in (
      omega (arith, c.piece_count-total.ensures.result, pieces_at_most c.question_count-questions.result c.in-Some.start c.in-Some.end, c.question_count-questions.ensures, count_by-le-length is_question rs, n),
      omega (arith, t, spanned_count rs, count_by-le-length is_fact rs, n),
    )

pub overflow_add-total : goal.overflow_add-total
overflow_add-total c = omega (arith, few c, c.loop-fact.invariant.4)

pub loop-fact-preserved : goal.loop-fact-preserved
loop-fact-preserved c =
    let rs = records_of c.args.book.now in
    let xs = spanned rs in
    let n = length c.loop-fact.yielded in
    let t = turn (goal.at.loop-fact-preserved c).In-Some in
    let more = length_push c.loop-fact.yielded (c.in-Some.fact, (c.in-Some.start, c.in-Some.end)) in
    let x : List ℕ = c.in-Some.start ∷ (c.in-Some.end ∷ []) in
    let lt : c.in-Some.fact < length c.loop-fact.spans = omega (arith, t, c.requires, spanned_count rs) in
    let count = pieces_in rs in (
      search rules,
      search rules,
      λ k h.
          ⊎_elim
          (λ (e : k ≡ c.in-Some.fact).
          (λ i. get_or (set c.loop-fact.spans c.in-Some.fact x) (e i) [])
          ∙ get_or-set_same c.loop-fact.spans c.in-Some.fact x [] lt
          ∙ (λ i. (t.2 i).0 ∷ ((t.2 i).1 ∷ []))
          ∙ sym (get_or-map pair xs n any [] t.1)
          ∙ ap (λ j. get_or (map pair xs) j []) (sym (e ∙ t.0)))
          (λ (ne : k ≢ c.in-Some.fact). get_or-set_other c.loop-fact.spans c.in-Some.fact k x [] ne ∙ c.loop-fact.invariant.2 k (omega (arith, more, t)))
          (cases_eq k c.in-Some.fact),
      omega (
        arith,
        c.loop-fact.invariant.3,
        c.piece_count-total.ensures.result,
        ap (λ q. length (pieces_of q (c.in-Some.start, c.in-Some.end))) c.question_count-questions.ensures,
        ap (λ y. length (pieces_of (question_count rs) y)) t.2,
        sum_by_more count xs n any t.1,
        ap (λ m. sum_by count (take m xs)) more,
      ),
      omega (arith, few c, c.loop-fact.invariant.4, more),
    )

-- after the last turn
all : (c : goal.In-None) → length c.loop-fact.yielded ≡ length (spanned (records_of c.args.book.now))
all c =
    let rs = records_of c.args.book.now in
    let end =
    YieldsList-end
    (YieldsList-at c.into_iter-fact-iterator.ensures.into_iter_gives (YieldsList-from_enumerate (YieldsList-at c.enumerate-fact-items.ensures.source (YieldsList-from_filter_map _ (λ p. span_at (records_of c.args.book.now) p.0) (YieldsList-at c.filter_map-facts.ensures.source (YieldsList-from_enumerate (YieldsList-at c.enumerate.ensures.source (YieldsList-from_first (λ x. x) listed (records_of c.args.book.now) c.records.ensures.gives)) c.enumerate.ensures.count)) c.filter_map-facts.ensures.closure (λ x r q k. search (rules, tests)))) c.enumerate-fact-items.ensures.count))
    c.loop-fact.yielded c.loop-fact.fact-iterator c.loop-fact.yielded_by c.next.result c.next.new.self c.in-None.is c.next.ensures.steps
    in
    omega (arith, end.1, length-enumerate_from 0 (filter_map (λ p. span_at rs p.0) (enumerate_from 0 rs)), ap length (spans_passed rs), length-map (spanned rs) (λ (x : Spanned). x.span))

pub returns-clause-total : goal.returns-clause-total
returns-clause-total c =
    let rs = records_of c.args.book.now in
    c.loop-fact.invariant.3 ∙ ap (sum_by (pieces_in rs)) (take_all (length c.loop-fact.yielded) (spanned rs) (omega (arith, all c))) ∙ sum_spanned rs (pieces_in rs)

pub returns-clause-few : goal.returns-clause-few
returns-clause-few c =
    let rs = records_of c.args.book.now in
    omega (arith, c.loop-fact.invariant.4, all c, spanned_count rs, count_by-le-length is_fact rs, c.records.ensures.few, ap length c.records.ensures.gives)

pub returns-clause-tabled : goal.returns-clause-tabled
returns-clause-tabled c = λ k h. c.loop-fact.invariant.2 k (omega (arith, all c))
