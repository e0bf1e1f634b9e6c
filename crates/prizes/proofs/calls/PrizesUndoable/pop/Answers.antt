use Rattle.std.proofs.Common.{◌∷◌, sym, ap, ◌∙◌}
use Rattle.undoable.specs.Stacks.{held, take_after}
use Rattle.prizes.proofs.Histories.{take_refused, take_accepted}
use Rattle.prizes.proofs.Holding.{refused, popped}
use Rattle.prizes.proofs.calls.PrizesUndoable.pop.Goals as goal

pub invariant_of-self : goal.invariant_of-self
invariant_of-self c =
    let p = c.args.self.now in
    let none = take_refused (held p.history.stack) _ (sym c.pop.ensures.result ∙ c.in_err-prize.was) in
    refused p (held c.pop.new.self.stack) _ c.pop.ensures.room c.pop.new.self.limit c.pop.ensures.limit (c.pop.ensures.held ∙ ap take_after none ∙ sym none)

pub invariant_of-self-2 : goal.invariant_of-self-2
invariant_of-self-2 c =
    let p = c.args.self.now in
    let top = c.in_ok-prize.prize in
    popped p (held c.pop.new.self.stack) _ c.pop.ensures.room c.pop.new.self.limit c.pop.ensures.limit top c.height-at.result c.restore.new.self
    (take_accepted (held p.history.stack) top (sym c.pop.ensures.result ∙ c.in_ok-prize.was) ∙ ap (λ l. top ∷ l) (sym c.pop.ensures.held))
    c.height-at.ensures c.restore.ensures.row c.restore.ensures.saved
