use Rattle.solver.proofs.Chaining.{put_one}
use Rattle.solver.proofs.chains.Chains.put.Goals as goal

pub returns-clause-facts : goal.returns-clause-facts
returns-clause-facts c =
    let s = c.args.self.now in
    put_one c.args.fact c.args.number s.used 0 s.nodes.now s.pieces.now s.heads s.nexts c.requires.room c.requires.numbered
