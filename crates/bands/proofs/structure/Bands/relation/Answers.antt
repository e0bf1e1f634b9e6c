-- What the rows say is the rule's answer.
use Rattle.std.proofs.Common.{rules}
use Rattle.bands.proofs.Holding.{holding, sound, related_now}
use Rattle.bands.proofs.structure.Bands.relation.Goals as goal

pub relation-requires : goal.relation-requires
relation-requires c = sound (holding c.args.self.now)

pub returns : goal.returns
returns c =
    let r = related_now (holding c.args.self.now) c.in_ok-a.a.index c.in_ok-a.b.index in
    search rules
