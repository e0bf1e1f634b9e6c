-- The root's size is the size of the group.
use Rattle.std.proofs.Common.{rules}
use Rattle.bands.proofs.Holding.{holding, sound, depth_now}
use Rattle.bands.proofs.structure.Bands.depth.Goals as goal

pub depth-requires : goal.depth-requires
depth-requires c = sound (holding c.args.self.now)

pub returns-clause-result : goal.returns-clause-result
returns-clause-result c =
    let d = depth_now (holding c.args.self.now) c.in_ok-band.band.index c.in_ok-band.band.within c.depth.result c.depth.ensures.links c.depth.ensures.bands in
    search rules
