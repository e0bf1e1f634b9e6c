use Rattle.std.proofs.Common.{sym, ◌∙◌}
use Rattle.bands.proofs.Holding.{holding, newest, popped}
use Rattle.bands.proofs.calls.BandsUndoable.pop.Goals as goal

pub undo-requires : goal.undo-requires
undo-requires c =
    let i = (newest (holding c.args.self.now) (sym c.pop.ensures.result ∙ c.in_ok-step.was)).inside in
    record { low = i.low; high = i.high }

pub invariant_of-self-2 : goal.invariant_of-self-2
invariant_of-self-2 c =
    let h = popped (holding c.args.self.now) (sym c.pop.ensures.result ∙ c.in_ok-step.was) c.pop.ensures.held c.undo.ensures in
    record { limited = c.pop.ensures.limit ∙ c.args.self.now.limited ∙ sym c.pop.ensures.room; admitted = h.admitted; present = h.present; steps = h.saved }
