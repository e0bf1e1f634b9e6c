use Rattle.std.proofs.Common.{◌≡◌, ℕ, ◌<◌, ◌≤◌, length, get_or}
use Rattle.book.specs.Spans.{before}
use Rattle.book.specs.View.{records_of}
use Rattle.solver.proofs.asking.number_questions.Given as goal

abbrev pub invariant-loop-question : goal.invariant-loop-question
invariant-loop-question l =
    goal.iterator-loop-question.can_next l.question-iterator
    × goal.iterator-loop-question.is_finite l.question-iterator
    × ((q : ℕ) → q < length l.yielded → get_or l.answers q 0 ≡ length (before q (records_of l.book)))
    × ((q : ℕ) → length l.yielded ≤ q → get_or l.answers q 0 ≡ get_or l.initial.answers q 0)
