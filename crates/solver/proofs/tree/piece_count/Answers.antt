use Rattle.std.proofs.Common.{◌∙◌, length, arith}
use Rattle.solver.specs.Folds.{numbers_of}
use Rattle.solver.proofs.Bounding.{pieces_few}
use Rattle.solver.proofs.Covering.{pieces_partition}
use Rattle.solver.proofs.Agreeing.{numbers_pieces}
use Rattle.solver.proofs.tree.piece_count.Goals as goal

pub returns-in-Some-clause-result : goal.returns-in-Some-clause-result
returns-in-Some-clause-result c =
    c.count_below.ensures 0
    ∙ (λ i. length (numbers_of (c.args.s, c.args.e) 0 (c.in-Some.ensures.0 i) (c.in-Some.ensures.1 i)))
    ∙ numbers_pieces c.args.t c.args.s c.args.e (omega (arith, c.in-Some.ensures.1, c.in-Some.tree.some))

pub returns-in-Some-clause-partition : goal.returns-in-Some-clause-partition
returns-in-Some-clause-partition c = pieces_partition

pub returns-in-Some-clause-few : goal.returns-in-Some-clause-few
returns-in-Some-clause-few c = pieces_few

pub returns-in-None-clause-partition : goal.returns-in-None-clause-partition
returns-in-None-clause-partition c = pieces_partition

pub returns-in-None-clause-few : goal.returns-in-None-clause-few
returns-in-None-clause-few c = pieces_few
