use Rattle.std.proofs.Common.{◌≡◌, ◌^◌, ◌<◌}
use Rattle.masks.specs.Reducing.{left_of}
use Rattle.masks.proofs.basis.Basis.reduce.Given as goal

abbrev pub invariant-loop-bit : goal.invariant-loop-bit
invariant-loop-bit l = record { low : l.rest < 2 ^ 58; left : left_of l.self.slots l.rest ≡ left_of l.self.slots l.fn.mask.bits }

-- each turn leaves a lower highest bit
abbrev pub decreases-loop-bit : goal.decreases-loop-bit
decreases-loop-bit l = l.rest
