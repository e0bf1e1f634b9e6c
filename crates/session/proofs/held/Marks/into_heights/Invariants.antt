-- The heights written and those of the marks ahead; room for these; each turn takes one entry out.
use Rattle.std.proofs.Common.{◌≡◌, ◌+◌, ◌≤◌, ◌++◌, vec_items, vec_len, vec_capacity}
use Rattle.std.specs.Vec.Iter.{into_iter_items, into_iter_len}
use Rattle.session.proofs.Noting.{heights_of}
use Rattle.session.proofs.held.Marks.into_heights.Given as goal

abbrev pub invariant-loop-entry : goal.invariant-loop-entry
invariant-loop-entry l = record {
  written : vec_items l.heights ++ heights_of (into_iter_items l.held) ≡ heights_of (into_iter_items l.initial.held);
  room : vec_len l.heights + into_iter_len l.held ≤ vec_capacity l.heights;
}

abbrev pub decreases-loop-entry : goal.decreases-loop-entry
decreases-loop-entry l = into_iter_len l.held
