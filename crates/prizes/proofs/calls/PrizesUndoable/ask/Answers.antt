use Rattle.std.proofs.Common.{◌<◌, get_or, Ok, sym, ap, ◌∙◌, arith}
use Rattle.std.proofs.lemmas.Bool.{and_parts, leb-true, cond-true}
use Rattle.prizes.specs.Meaning.{stack_of}
use Rattle.prizes.proofs.Rowing.{row_entry}
use Rattle.prizes.proofs.calls.PrizesUndoable.ask.Goals as goal

pub returns : goal.returns
returns c =
    let asked = sym c.if-not-is_payout.ensures in
    let v = c.args.question.first in
    let lt : c.args.question.first < 1001 = omega (arith, leb-true c.args.question.first 1000 (and_parts _ _ asked).0) in
    let number = c.answer.ensures ∙ ap (λ (l : _). get_or l v 0) c.args.self.now.present ∙ row_entry (stack_of c.args.self.now) v lt in
    ap Ok number ∙ sym (cond-true _ _ _ asked)
