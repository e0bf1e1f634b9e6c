use Rattle.std.proofs.Common.{◌+◌, ◌-◌, ◌*◌, length, sym, ap, ◌∙◌, arith}
use Rattle.solver.specs.Folds.{numbers_of}
use Rattle.solver.specs.Tree.{middle}
use Rattle.solver.proofs.Numbering.{numbers_apart, length_parts, numbers_few}
use Rattle.solver.proofs.tree.+count_below.Goals as goal

pub overflow_add-result : goal.overflow_add-result
overflow_add-result t c =
    let x = c.args.span in
    let a = c.halves.result.0 in
    let b = c.halves.result.1 in
    omega (arith, c.count_below.ensures 0, c.count_below-in-Across.ensures 0, numbers_few x.start x.end 0 a.lo a.hi a.some, numbers_few x.start x.end 0 b.lo b.hi b.some)

pub returns-in-Apart : goal.returns-in-Apart
returns-in-Apart t c = λ m. sym (ap length (numbers_apart c.args.span.start c.args.span.end m c.args.tree.lo c.args.tree.hi c.args.tree.some c.in-Apart.ensures))

pub returns-in-Across : goal.returns-in-Across
returns-in-Across t c =
    λ m.
    let x = c.args.span in
    let v = c.args.tree in
    let first = c.halves.ensures.first in
    let second = c.halves.ensures.second in
    let right = m + 2 * (middle c.args.tree.lo c.args.tree.hi - c.args.tree.lo) in
    (λ i. c.count_below.ensures (m + 1) i + c.count_below-in-Across.ensures right i)
    ∙ (λ i. length (numbers_of (x.start, x.end) (m + 1) (first.0 i) (first.1 i)) + length (numbers_of (x.start, x.end) right (second.0 i) (second.1 i)))
    ∙ sym (length_parts x.start x.end m v.lo v.hi c.in-Across.ensures.0 c.in-Across.ensures.1)
