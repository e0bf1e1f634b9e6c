use Rattle.std.proofs.Common.{◌≡◌, ℕ, ◌*◌, ◌<◌, ◌≤◌, ◌∷◌, [], length, map, get_or, sum_by, take}
use Rattle.book.specs.Records.{question_count}
use Rattle.book.specs.View.{records_of}
use Rattle.solver.specs.Laid.{spanned}
use Rattle.solver.specs.Tree.{pieces_of}
use Rattle.solver.proofs.spanning.write_spans.Given as goal

abbrev pub invariant-loop-fact : goal.invariant-loop-fact
invariant-loop-fact l =
    goal.iterator-loop-fact.can_next l.fact-iterator
    × goal.iterator-loop-fact.is_finite l.fact-iterator
    × ((k : ℕ) → k < length l.yielded → get_or l.spans k [] ≡ get_or (map (λ x. x.span.0 ∷ (x.span.1 ∷ [])) (spanned (records_of l.book))) k [])
    × (l.total ≡ sum_by (λ x. length (pieces_of (question_count (records_of l.book)) x.span)) (take (length l.yielded) (spanned (records_of l.book))))
    × (l.total ≤ 4096 * length l.yielded)
