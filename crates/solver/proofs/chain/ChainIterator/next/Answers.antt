use Rattle.std.proofs.Common.{length, ap, arith, rules}
use Rattle.solver.proofs.Chaining.{chain_step}
use Rattle.solver.proofs.chain.ChainIterator.next.Goals as goal

pub returns-clause-steps : goal.returns-clause-steps
returns-clause-steps c = chain_step c.args.self.now.pieces.now c.args.self.now.link c.in_ok-entry.entry c.args.self.now.nexts (omega (arith, c.in_ok-entry.ensures))

pub returns-clause-goes : goal.returns-clause-goes
returns-clause-goes c =
    let fewer = ap length (chain_step c.args.self.now.pieces.now c.args.self.now.link c.in_ok-entry.entry c.args.self.now.nexts (omega (arith, c.in_ok-entry.ensures))) in
    search rules
