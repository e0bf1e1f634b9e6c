use Rattle.std.proofs.Common.{sym, ◌∙◌}
use Rattle.masks.proofs.Standing.{standing, newest, popped}
use Rattle.masks.proofs.calls.MasksUndoable.pop.Goals as goal

pub clear-requires : goal.clear-requires
clear-requires c = (newest (standing c.args.self.now) (sym c.pop.ensures.result ∙ c.in_ok-step.was)).fits

pub invariant_of-self-2 : goal.invariant_of-self-2
invariant_of-self-2 c =
    let s = popped (standing c.args.self.now) (sym c.pop.ensures.result ∙ c.in_ok-step.was) c.pop.ensures.held c.clear.ensures in
    record { limited = c.pop.ensures.limit ∙ c.args.self.now.limited ∙ sym c.pop.ensures.room; masks = s.masks; steps = s.saved; made = s.made }
