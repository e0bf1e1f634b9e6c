-- The climb so far, and why it ends.
use Rattle.std.proofs.Common.{◌-◌, ◌^◌, ◌<◌, ◌≤◌}
use Rattle.bands.specs.Rows.{row_at}
use Rattle.bands.proofs.Climbing.{Way}
use Rattle.bands.proofs.table.Table.climb.Given as goal

abbrev pub invariant-loop-root : goal.invariant-loop-root
invariant-loop-root l = record {
  inside : l.root < 1024;
  shallow : 2 ^ l.links ≤ (row_at l.self.rows l.root).size;
  way : Way l.self.rows l.fn.band.index l.links l.root l.odd;
}

abbrev pub decreases-loop-root : goal.decreases-loop-root
decreases-loop-root l = 1024 - (row_at l.self.rows l.root).size
