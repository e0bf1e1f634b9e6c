use Rattle.std.proofs.Common.{◌≡◌, ◌+◌, ◌≤◌, length, take}
use Rattle.book.specs.Listed.{listed}
use Rattle.book.specs.Records.{entered_of, withdrawn_of, question_count}
use Rattle.book.specs.View.{records_of}
use Rattle.book.proofs.state.Book.front.Given as goal

abbrev pub invariant-loop-item : goal.invariant-loop-item
invariant-loop-item l = record {
  entered : l.entered + entered_of l.fact (listed l.item-iterator) ≡ entered_of l.fact (take l.number (records_of l.self));
  withdrawn : l.withdrawn + withdrawn_of l.fact (listed l.item-iterator) ≡ withdrawn_of l.fact (take l.number (records_of l.self));
  questions : l.questions + question_count (listed l.item-iterator) ≡ question_count (take l.number (records_of l.self));
  few_entered : l.entered + length (listed l.item-iterator) ≤ 4096;
  few_withdrawn : l.withdrawn + length (listed l.item-iterator) ≤ 4096;
  few_questions : l.questions + length (listed l.item-iterator) ≤ 4096;
}
