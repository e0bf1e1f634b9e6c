use Rattle.std.proofs.Common.{◌≡◌, ◌+◌, ◌≤◌, length}
use Rattle.book.specs.Listed.{listed}
use Rattle.book.specs.Spans.{until}
use Rattle.book.proofs.scans.questions_until.Given as goal

abbrev pub invariant-loop-item : goal.invariant-loop-item
invariant-loop-item l = record {
  questions : l.questions + until l.fact l.left (listed l.item-iterator) ≡ until l.fact l.equal (listed l.fn.records);
  few : l.questions + length (listed l.item-iterator) ≤ 4096;
}
