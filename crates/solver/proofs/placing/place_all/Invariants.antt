use Rattle.std.proofs.Common.{◌≡◌, ℕ, length, sum_by, take}
use Rattle.book.specs.Records.{question_count}
use Rattle.book.specs.View.{records_of}
use Rattle.solver.specs.Laid.{laid, spanned}
use Rattle.solver.specs.Placed.{placed}
use Rattle.solver.specs.Tree.{pieces_of}
use Rattle.solver.proofs.placing.place_all.Given as goal

abbrev pub invariant-loop-number : goal.invariant-loop-number
invariant-loop-number l =
    goal.iterator-loop-number.can_next l.number-iterator
    × goal.iterator-loop-number.is_finite l.number-iterator
    × (l.chains.used ≡ sum_by (λ x. length (pieces_of (question_count (records_of l.book)) x.span)) (take (length l.yielded) (spanned (records_of l.book))))
    × ((m : ℕ) → placed l.chains m ≡ laid (question_count (records_of l.book)) (take (length l.yielded) (spanned (records_of l.book))) m)
    × (length l.chains.nodes.now ≡ length l.initial.chains.nodes.now)
    × (length l.chains.pieces.now ≡ length l.initial.chains.pieces.now)
