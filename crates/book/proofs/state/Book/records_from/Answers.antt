use Rattle.std.proofs.Common.{◌≡◌, ◌-◌, ◌*◌, length, take, drop, ap, ◌∙◌, arith}
use Rattle.std.proofs.lemmas.List.{length-drop, take_all}
use Rattle.book.specs.View.{records_of}
use Rattle.book.specs.Words.{reads}
use Rattle.book.proofs.Books.{few-records, records-from}
use Rattle.book.proofs.state.Book.records_from.Goals as goal
use Rattle.book.proofs.state.Book.records_from.Goals.{After-words}

last : (c : After-words) → let ws = c.words.result.now in let k = 2 * c.min-start.result in reads (take (length ws - k) (drop k ws)) ≡ drop c.args.number (records_of c.args.self.now)
last c =
    let b = c.args.self.now in
    let ws = c.words.result.now in
    let k = 2 * c.min-start.result in
    ap reads (take_all (length ws - k) (drop k ws) (omega (arith, length-drop k ws)))
    ∙ ap (λ m. reads (drop (2 * m) ws)) c.min-start.ensures
    ∙ records-from b (omega arith) ws c.words.ensures c.args.number

pub invariant_of-result : goal.invariant_of-result
invariant_of-result c =
    let b = c.args.self.now in
    record { few = omega (arith, few-records b (omega arith), length-drop c.args.number (records_of b), ap length (last (goal.at.invariant_of-result c).After-words)) }

pub returns : goal.returns
returns c = last (goal.at.returns c).After-words
