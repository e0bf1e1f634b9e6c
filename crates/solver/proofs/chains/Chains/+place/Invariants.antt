use Rattle.std.proofs.Common.{◌-◌}
use Rattle.solver.proofs.chains.Chains.+place.Given as goal

abbrev pub decreases-place : goal.decreases-place
decreases-place l = l.node.tree.hi - l.node.tree.lo
