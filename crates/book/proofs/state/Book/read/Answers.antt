use Rattle.std.proofs.Common.{length, ap, sym, ◌∙◌, arith}
use Rattle.std.proofs.lemmas.List.{length-drop}
use Rattle.book.specs.View.{records_of}
use Rattle.book.proofs.Books.{few-records}
use Rattle.book.proofs.state.Book.read.Goals as goal

pub overflow_mul-place : goal.overflow_mul-place
overflow_mul-place c =
    let b = c.args.self.now in
    omega (arith, few-records b (omega arith), length-drop c.args.number (records_of b), ap length (sym c.records_from.ensures ∙ c.in-Some.ensures.steps))
