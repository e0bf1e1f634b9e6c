use Rattle.std.proofs.Common.{◌≡◌, ◌+◌, ◌≤◌, ◌++◌, length, drop, string_bytes}
use Rattle.book.specs.Listed.{listed}
use Rattle.book.specs.View.{records_of}
use Rattle.listing.specs.Lines.{span_lines}
use Rattle.listing.proofs.spans.span_listing.Given as goal

-- the records ahead, and their lines behind the text so far
abbrev pub invariant-loop-number : goal.invariant-loop-number
invariant-loop-number l = record {
  can_go_on : goal.iterator-loop-number.can_next l.number-iterator;
  ends : goal.iterator-loop-number.is_finite l.number-iterator;
  ahead : listed l.number-iterator.iter ≡ drop l.number-iterator.count (records_of l.book);
  few : l.number-iterator.count + length (listed l.number-iterator.iter) ≤ 4096;
  told : string_bytes l.text ++ span_lines (records_of l.book) l.number-iterator.count (listed l.number-iterator.iter) ≡ span_lines (records_of l.book) 0 (records_of l.book);
}
