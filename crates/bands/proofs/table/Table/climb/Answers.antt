-- One link more, and the end at a root.
use Rattle.std.proofs.Common.{arith}
use Rattle.bands.proofs.Climbing.{start, step, way_place, few_links, twice-pow}
use Rattle.bands.proofs.table.Table.climb.Goals as goal

pub overflow_add-links : goal.overflow_add-links
overflow_add-links c = omega (arith, few_links c.loop-root.links (omega (arith, c.loop-root.invariant.shallow, c.requires.most c.loop-root.root)))

pub loop-root-init : goal.loop-root-init
loop-root-init c = record { inside = c.args.band.within; shallow = c.requires.positive _ c.args.band.within; way = start }

pub loop-root-preserved : goal.loop-root-preserved
loop-root-preserved c =
    record {
      inside = c.requires.inside _ _ c.in-Some.is;
      shallow = omega (arith, c.loop-root.invariant.shallow, c.requires.doubling _ _ c.in-Some.is, twice-pow c.loop-root.links);
      way = step c.loop-root.invariant.way c.in-Some.is;
    }

pub returns-clause-place : goal.returns-clause-place
returns-clause-place c =
    way_place c.loop-root.invariant.way c.in_default.is (few_links _ (omega (arith, c.loop-root.invariant.shallow, c.requires.most c.loop-root.root)))
