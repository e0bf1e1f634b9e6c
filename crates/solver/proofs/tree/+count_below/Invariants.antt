use Rattle.std.proofs.Common.{◌-◌}
use Rattle.solver.proofs.tree.+count_below.Given as goal

abbrev pub decreases-count_below : goal.decreases-count_below
decreases-count_below l = l.tree.hi - l.tree.lo
