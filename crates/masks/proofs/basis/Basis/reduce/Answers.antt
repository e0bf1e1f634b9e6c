use Rattle.std.proofs.Common.{◌≡◌, length, sym, ap, ◌∙◌, arith}
use Rattle.masks.specs.Reducing.{left_of}
use Rattle.masks.proofs.Turning.{none_left, turn_at}
use Rattle.masks.proofs.basis.Basis.reduce.Goals as goal

pub bounds-self-slot : goal.bounds-self-slot
bounds-self-slot c = (turn_at _ c.args.self.now.shaped (omega arith) _ _ c.loop-bit.invariant.low c.in-Some.ensures.power_le c.in-Some.ensures.next_power_gt).within

pub returns-in-0 : goal.returns-in-0
returns-in-0 c =
    let t = turn_at _ c.args.self.now.shaped (omega arith) _ _ c.loop-bit.invariant.low c.in-Some.ensures.power_le c.in-Some.ensures.next_power_gt in
    record { left = sym (t.last c.in-0.is) ∙ c.loop-bit.invariant.left; within = t.within; fits = t.fits c.in-0.is }

pub loop-bit-smaller : goal.loop-bit-smaller
loop-bit-smaller c =
    let t = turn_at _ c.args.self.now.shaped (omega arith) _ _ c.loop-bit.invariant.low c.in-Some.ensures.power_le c.in-Some.ensures.next_power_gt in
    t.lower (λ z. omega arith)

pub loop-bit-preserved : goal.loop-bit-preserved
loop-bit-preserved c =
    let long : length c.args.self.now.slots ≡ 58 = omega arith in
    let t = turn_at _ c.args.self.now.shaped long _ _ c.loop-bit.invariant.low c.in-Some.ensures.power_le c.in-Some.ensures.next_power_gt in
    record { low = omega (arith, t.lower (λ z. omega arith), c.loop-bit.invariant.low); left = t.on (λ z. omega arith) ∙ c.loop-bit.invariant.left }

pub returns-clause-left : goal.returns-clause-left
returns-clause-left c = sym (none_left _ c.args.self.now.shaped) ∙ ap (left_of c.args.self.now.slots) (sym c.in_default.ensures.none) ∙ c.loop-bit.invariant.left
