use Rattle.std.proofs.Common.{◌≡◌, ◌+◌, length, drop}
use Rattle.listing.specs.Answers.{lines_from, written_at}
use Rattle.listing.proofs.answers.put_answers.Given as goal

-- what is left to write, written at `at`, completes the table
abbrev pub invariant-loop-question : goal.invariant-loop-question
invariant-loop-question l =
    (written_at l.at (lines_from l.question (drop l.question l.answers)) l.out ≡ written_at 0 (lines_from 0 l.answers) l.initial.out)
    × (l.at + length (lines_from l.question (drop l.question l.answers)) ≡ length (lines_from 0 l.answers))
