use Rattle.std.proofs.Common.{sym, arith}
use Rattle.book.proofs.Books.{length-records}
use Rattle.book.proofs.state.Book.record_count.Goals as goal

pub returns : goal.returns
returns c = sym (length-records c.args.self.now (omega arith))
