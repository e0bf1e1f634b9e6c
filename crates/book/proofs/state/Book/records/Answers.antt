use Rattle.std.proofs.Common.{length, ap, arith}
use Rattle.book.proofs.Books.{few-records, reads-used}
use Rattle.book.proofs.state.Book.records.Goals as goal

pub invariant_of-result : goal.invariant_of-result
invariant_of-result c =
    let b = c.args.self.now in
    record { few = omega (arith, few-records b (omega arith), ap length (reads-used b _ c.words.ensures)) }
