use Rattle.std.proofs.Common.{◌++◌, length, replicate, sym, refl, ap, subst, arith, rules}
use Rattle.solver.specs.Chains.{Added, times_in}
use Rattle.solver.specs.Nodes.{pieces_under}
use Rattle.solver.specs.Placed.{placed}
use Rattle.solver.proofs.Chaining.{added_both}
use Rattle.solver.proofs.Nodes.{pieces_halves, count_halves}
use Rattle.solver.proofs.Numbering.{numbers_apart}
use Rattle.solver.proofs.chains.Chains.+place.Goals as goal

pub place-requires : goal.place-requires
place-requires t c =
    let more = count_halves c.in-Across.ensures.1 c.children.ensures c.args.span c.in-Across.ensures.0 in
    (search rules, (omega arith, omega arith))

pub place-requires-in-Across : goal.place-requires-in-Across
place-requires-in-Across t c =
    let more = count_halves c.in-Across.ensures.1 c.children.ensures c.args.span c.in-Across.ensures.0 in
    (search rules, (omega arith, omega arith))

pub returns-in-Apart : goal.returns-in-Apart
returns-in-Apart t c =
    let x = c.args.span in
    let v = c.args.node in
    let none = numbers_apart x.start x.end v.number v.tree.lo v.tree.hi v.tree.some c.in-Apart.ensures in
    record { used = omega (arith, ap length none); facts = λ m. sym (ap (λ l. replicate (times_in m l) c.args.fact ++ placed c.args.self.now m) none); nodes = refl; pieces = refl }

pub returns-in-Across-clause-used : goal.returns-in-Across-clause-used
returns-in-Across-clause-used t c = omega (arith, count_halves c.in-Across.ensures.1 c.children.ensures c.args.span c.in-Across.ensures.0)

pub returns-in-Across-clause-facts : goal.returns-in-Across-clause-facts
returns-in-Across-clause-facts t c =
    let x = c.args.span in
    let v = c.children.result in
    subst (λ l. Added c.args.fact l (placed c.args.self.now) (placed c.place-in-Across.new.self)) (sym (pieces_halves c.in-Across.ensures.1 c.children.ensures x c.in-Across.ensures.0)) (added_both c.args.fact (pieces_under v.0 x) (pieces_under v.1 x) (placed c.args.self.now) (placed c.place.new.self) (placed c.place-in-Across.new.self) c.place.ensures.facts c.place-in-Across.ensures.facts)
