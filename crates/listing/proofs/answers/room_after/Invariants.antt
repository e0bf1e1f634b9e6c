use Rattle.std.proofs.Common.{◌≡◌, drop}
use Rattle.listing.specs.Answers.{lines_from, room_left}
use Rattle.listing.proofs.answers.room_after.Given as goal

-- what is left to write leaves of the room that is left what all lines leave of the whole
abbrev pub invariant-loop-question : goal.invariant-loop-question
invariant-loop-question l = room_left (lines_from l.question (drop l.question l.answers)) l.left ≡ room_left (lines_from 0 l.answers) l.room
