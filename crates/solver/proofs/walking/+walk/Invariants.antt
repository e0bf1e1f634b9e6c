use Rattle.std.proofs.Common.{◌-◌}
use Rattle.solver.proofs.walking.+walk.Given as goal

abbrev pub decreases-walk : goal.decreases-walk
decreases-walk g l = l.node.tree.hi - l.node.tree.lo
