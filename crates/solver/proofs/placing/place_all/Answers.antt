use Rattle.std.proofs.Common.{◌≡◌, ℕ, ◌+◌, ◌<◌, ◌≤◌, List, [], ◌∷◌, ◌++◌, length, replicate, get_or, take, sum_by, is_some, sym, ap, ◌∙◌, append_assoc, arith, rules, tests}
use Rattle.std.proofs.lemmas.List.{append-nil, length_push, take_all, take_more}
use Rattle.std.proofs.lemmas.List.Sums.{sum_by_more, sum_by_more_le}
use Rattle.std.proofs.lemmas.Iterator.{YieldsList-from_slice, YieldsList-from_zip}
use Rattle.std.proofs.lemmas.Iterator.Consumers.{YieldsList-at, YieldsList-turn, YieldsList-end}
use Rattle.book.specs.declared.records.Record.{Record}
use Rattle.book.specs.Records.{fact_in, question_count}
use Rattle.book.specs.View.{records_of}
use Rattle.solver.specs.declared.span.Span.{Span}
use Rattle.solver.specs.declared.subtree.TreeNode.{TreeNode}
use Rattle.solver.specs.Chains.{times_in}
use Rattle.solver.specs.Folds.{numbers_of}
use Rattle.solver.specs.Laid.{Spanned, laid, spanned}
use Rattle.solver.specs.Nodes.{IsRoot, pieces_under}
use Rattle.solver.specs.Tree.{pieces_of}
use Rattle.solver.proofs.Agreeing.{numbers_pieces}
use Rattle.solver.proofs.Entered.{fact_turn, facts_zipped, spanned_count, spanned_within, sum_spanned}
use Rattle.solver.proofs.Passing.{kept_records}
use Rattle.solver.proofs.placing.place_all.Goals as goal
use Rattle.solver.proofs.placing.place_all.Goals.{In-Some}

-- what is read beyond a list
abbrev any : Spanned
any = record { number = 0; span = (0, 0) }

-- the fact of this turn
abbrev here : In-Some → Spanned
here c = get_or (spanned (records_of c.args.book.now)) (length c.loop-number.yielded) any

turn : (c : In-Some) → (length c.loop-number.yielded < length (spanned (records_of c.args.book.now))) × (c.in-Some.number ≡ (here c).number) × (c.in-Some.span.now ≡ (here c).span.0 ∷ ((here c).span.1 ∷ []))
turn c =
    fact_turn (records_of c.args.book.now) c.args.spans.now c.requires.tabled.0 (length c.loop-number.yielded) c.in-Some.number c.in-Some.field-0-0-1 c.in-Some.span.now any
    (YieldsList-turn
    (YieldsList-at c.into_iter-number-iterator.ensures.into_iter_gives (YieldsList-from_zip
    (YieldsList-at c.zip-number-items.ensures.first (kept_records _ (λ r. is_some (fact_in r)) c.filter-facts.ensures.source c.enumerate.ensures.source c.enumerate.ensures.count (records_of c.args.book.now) c.records.ensures.gives c.filter-facts.ensures.closure (λ x b q k. search (rules, tests))))
    (YieldsList-from_slice c.args.spans.now c.zip-number-items.ensures.second.0)))
    c.loop-number.yielded c.loop-number.number-iterator c.loop-number.yielded_by c.next.result c.next.new.self ((c.in-Some.number, c.in-Some.field-0-0-1), c.in-Some.span) c.in-Some.is c.next.ensures.steps)

-- its pieces
module _ (rs : List Record) (x : Spanned) (v : TreeNode) (root : IsRoot rs v) (y : Span) (w : List ℕ) (read : y ≡ record { start = get_or w 0 0; end = get_or w 1 0 }) (is : w ≡ x.span.0 ∷ (x.span.1 ∷ [])) where
  pieces_here : pieces_under v y ≡ numbers_of x.span 0 0 (question_count rs)
  pieces_here = (λ i. numbers_of ((read i).start, (read i).end) (root.0 i) (root.1 i) (root.2 i)) ∙ (λ i. numbers_of (get_or (is i) 0 0, get_or (is i) 1 0) 0 0 (question_count rs))

  count_here : length (pieces_under v y) ≡ length (pieces_of (question_count rs) x.span)
  count_here = ap length pieces_here ∙ numbers_pieces (question_count rs) x.span.0 x.span.1 (omega (arith, root, v.tree.some))

-- what is laid with one fact more
laid-append : (t : ℕ) (xs ys : List Spanned) (m : ℕ) → laid t (xs ++ ys) m ≡ laid t ys m ++ laid t xs m
laid-append t [] ys m = sym (append-nil (laid t ys m))
laid-append t (x ∷ xs) ys m =
    let new = replicate (times_in m (numbers_of x.span 0 0 t)) x.number in
    ap (λ l. l ++ new) (laid-append t xs ys m) ∙ append_assoc (laid t ys m) (laid t xs m) new

laid_more : (t : ℕ) (xs : List Spanned) (n : ℕ) → n < length xs → (m : ℕ) → laid t (take (n + 1) xs) m ≡ replicate (times_in m (numbers_of (get_or xs n any).span 0 0 t)) (get_or xs n any).number ++ laid t (take n xs) m
laid_more t xs n l m = ap (λ ys. laid t ys m) (take_more xs n any l) ∙ laid-append t (take n xs) (get_or xs n any ∷ []) m

pub overflow_cast-number : goal.overflow_cast-number
overflow_cast-number c =
    let t = turn (goal.at.overflow_cast-number c).In-Some in
    let w = spanned_within (records_of c.args.book.now) (length c.loop-number.yielded) any t.0 in
    omega (arith, t.1, w.0, c.records.ensures.few, ap length c.records.ensures.gives)

pub place-requires-clause-room : goal.place-requires-clause-room
place-requires-clause-room c =
    let rs = records_of c.args.book.now in
    let d = (goal.at.place-requires-clause-room c).In-Some in
    let t = turn d in
    omega (
      arith,
      c.loop-number.invariant.2,
      c.loop-number.invariant.5,
      c.requires.pieces,
      count_here rs (here d) c.args.root c.requires.root c.from.result c.in-Some.span.now c.from.ensures t.2,
      sum_by_more_le (λ (x : Spanned). length (pieces_of (question_count rs) x.span)) (spanned rs) (length c.loop-number.yielded) any t.0,
      sum_spanned rs (λ x. length (pieces_of (question_count rs) x.span)),
    )

pub loop-number-preserved : goal.loop-number-preserved
loop-number-preserved c =
    let rs = records_of c.args.book.now in
    let xs = spanned rs in
    let n = length c.loop-number.yielded in
    let d = (goal.at.loop-number-preserved c).In-Some in
    let t = turn d in
    let x = here d in
    let more = length_push c.loop-number.yielded ((c.in-Some.number, c.in-Some.field-0-0-1), c.in-Some.span) in
    let old = c.loop-number.invariant in
    let put = c.place.ensures in (
      search rules,
      search rules,
      omega (
        arith,
        old.2,
        put.used,
        count_here rs x c.args.root c.requires.root c.from.result c.in-Some.span.now c.from.ensures t.2,
        sum_by_more (λ (y : Spanned). length (pieces_of (question_count rs) y.span)) xs n any t.0,
        ap (λ k. sum_by (λ (y : Spanned). length (pieces_of (question_count rs) y.span)) (take k xs)) more,
      ),
      λ m.
          put.facts m
          ∙ (λ i. replicate (times_in m (pieces_here rs x c.args.root c.requires.root c.from.result c.in-Some.span.now c.from.ensures t.2 i)) (t.1 i) ++ old.3 m i)
          ∙ sym (laid_more (question_count rs) xs n t.0 m)
          ∙ ap (λ k. laid (question_count rs) (take k xs) m) (sym more),
      omega (arith, put.nodes, old.4),
      omega (arith, put.pieces, old.5),
    )

pub returns-clause-laid : goal.returns-clause-laid
returns-clause-laid c =
    let rs = records_of c.args.book.now in
    let end =
    YieldsList-end
    (YieldsList-at c.into_iter-number-iterator.ensures.into_iter_gives (YieldsList-from_zip
    (YieldsList-at c.zip-number-items.ensures.first (kept_records _ (λ r. is_some (fact_in r)) c.filter-facts.ensures.source c.enumerate.ensures.source c.enumerate.ensures.count rs c.records.ensures.gives c.filter-facts.ensures.closure (λ x b q k. search (rules, tests))))
    (YieldsList-from_slice c.args.spans.now c.zip-number-items.ensures.second.0)))
    c.loop-number.yielded c.loop-number.number-iterator c.loop-number.yielded_by c.next.result c.next.new.self c.in-None.is c.next.ensures.steps
    in
    let all : length (spanned (records_of c.args.book.now)) ≤ length c.loop-number.yielded = omega (arith, end.1, facts_zipped rs c.args.spans.now, spanned_count rs, c.requires.tabled.1) in
    λ m. c.loop-number.invariant.3 m ∙ ap (λ l. laid (question_count rs) l m) (take_all (length c.loop-number.yielded) (spanned rs) all)
