use Rattle.std.proofs.Common.{◌≡◌, ◌+◌, ◌≤◌, true, length}
use Rattle.book.specs.Listed.{listed}
use Rattle.book.specs.Records.{fact_count, withdrawal_count, question_count}
use Rattle.book.specs.Spans.{deepest_of}
use Rattle.book.specs.View.{records_of}
use Rattle.book.proofs.Passes.{lasts, deepest_on}
use Rattle.book.proofs.state.Book.summary.Given as goal

abbrev pub invariant-loop-item : goal.invariant-loop-item
invariant-loop-item l = record {
  facts : l.counts.facts + fact_count (listed l.item-iterator) ≡ fact_count (records_of l.self);
  withdrawals : l.counts.withdrawals + withdrawal_count (listed l.item-iterator) ≡ withdrawal_count (records_of l.self);
  questions : l.counts.questions + question_count (listed l.item-iterator) ≡ question_count (records_of l.self);
  deepest : deepest_on l.alive l.counts.deepest (listed l.item-iterator) ≡ deepest_of (records_of l.self);
  lasts : lasts l.alive (listed l.item-iterator) ≡ true;
  few_facts : l.counts.facts + length (listed l.item-iterator) ≤ 4096;
  few_withdrawals : l.counts.withdrawals + length (listed l.item-iterator) ≤ 4096;
  few_alive : l.alive + length (listed l.item-iterator) ≤ 4096;
  few_questions : l.counts.questions + length (listed l.item-iterator) ≤ 4096;
}
