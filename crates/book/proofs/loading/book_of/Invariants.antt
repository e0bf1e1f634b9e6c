use Rattle.std.proofs.Common.{◌≡◌, drop}
use Rattle.book.specs.Loads.{loads}
use Rattle.book.specs.Pending.{Waits, ahead}
use Rattle.book.specs.View.{records_of}
use Rattle.book.proofs.loading.book_of.Given as goal

abbrev pub invariant-loop-at : goal.invariant-loop-at
invariant-loop-at l = record {
  ahead : ahead l.at (records_of l.fresh) l.head (drop l.at l.words) ≡ loads l.words;
  waits : Waits l.at l.head;
}
