use Rattle.std.proofs.Common.{sym, ◌∙◌}
use Rattle.masks.proofs.Standing.{put_on, standing, pushed}
use Rattle.masks.proofs.calls.MasksUndoable.push.Goals as goal

pub invariant_of-self : goal.invariant_of-self
invariant_of-self c =
    let on_top = c.push.ensures.held ∙ put_on _ _ _ (sym c.if-is_full.ensures) in
    let s = pushed (standing c.args.self.now) c.in_ok-mask.mask.low c.add-slot.ensures.slot c.add-slot.ensures.slots on_top in
    record { limited = c.push.ensures.limit ∙ c.args.self.now.limited ∙ sym c.push.ensures.room; masks = s.masks; steps = s.saved; made = s.made }
