use Rattle.std.proofs.Common.{sym, ◌∙◌}
use Rattle.bands.proofs.Holding.{put_on, holding, sound, stays_inside, pushed}
use Rattle.bands.proofs.calls.BandsUndoable.push.Goals as goal

pub step-step-requires : goal.step-step-requires
step-step-requires c = record { sound = sound (holding c.args.self.now); admitted = sym c.if-not-is_fact.ensures }

pub apply-requires : goal.apply-requires
apply-requires c =
    let i = stays_inside (holding c.args.self.now) c.args.fact (sym c.if-not-is_fact.ensures) c.step-step.ensures in
    record { low = i.low; high = i.high; fits = i.fits }

pub invariant_of-self-2 : goal.invariant_of-self-2
invariant_of-self-2 c =
    let on = c.push.ensures.held ∙ put_on _ _ _ (sym c.push.ensures.result ∙ c.in_ok-push.was) in
    let h = pushed (holding c.args.self.now) c.args.fact (sym c.if-not-is_fact.ensures) c.step-step.ensures on c.apply.ensures in
    record { limited = c.push.ensures.limit ∙ c.args.self.now.limited ∙ sym c.push.ensures.room; admitted = h.admitted; present = h.present; steps = h.saved }
