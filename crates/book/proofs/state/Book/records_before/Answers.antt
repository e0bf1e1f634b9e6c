use Rattle.std.proofs.Common.{◌≡◌, ◌*◌, length, take, ap, ◌∙◌, arith}
use Rattle.std.proofs.lemmas.List.{length-take}
use Rattle.book.specs.View.{records_of}
use Rattle.book.specs.Words.{reads}
use Rattle.book.proofs.Books.{few-records, records-before}
use Rattle.book.proofs.state.Book.records_before.Goals as goal
use Rattle.book.proofs.state.Book.records_before.Goals.{After-words}

first : (c : After-words) → reads (take (2 * c.min-end.result) c.words.result.now) ≡ take c.args.number (records_of c.args.self.now)
first c =
    let b = c.args.self.now in
    let ws = c.words.result.now in
    ap (λ m. reads (take (2 * m) ws)) c.min-end.ensures ∙ records-before b (omega arith) ws c.words.ensures c.args.number

pub invariant_of-result : goal.invariant_of-result
invariant_of-result c =
    let b = c.args.self.now in
    record { few = omega (arith, few-records b (omega arith), length-take c.args.number (records_of b), ap length (first (goal.at.invariant_of-result c).After-words)) }

pub returns : goal.returns
returns c = first (goal.at.returns c).After-words
