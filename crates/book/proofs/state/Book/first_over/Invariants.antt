use Rattle.std.proofs.Common.{◌≡◌, ◌+◌, ◌≤◌, true, length}
use Rattle.book.specs.Listed.{listed}
use Rattle.book.specs.Spans.{first_crowded}
use Rattle.book.specs.View.{records_of}
use Rattle.book.proofs.Passes.{lasts, crowded_on}
use Rattle.book.proofs.state.Book.first_over.Given as goal

abbrev pub invariant-loop-item : goal.invariant-loop-item
invariant-loop-item l = record {
  crowded : crowded_on l.others l.limit l.alive l.questions (listed l.item-iterator) ≡ first_crowded (records_of l.self) l.others l.limit;
  lasts : lasts l.alive (listed l.item-iterator) ≡ true;
  few_alive : l.alive + length (listed l.item-iterator) ≤ 4096;
  few_questions : l.questions + length (listed l.item-iterator) ≤ 4096;
}
