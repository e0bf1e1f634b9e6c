use Rattle.std.proofs.Common.{ap, ◌∙◌}
use Rattle.undoable.specs.Calls.{pop_stack}
use Rattle.undoable.proofs.Popping.{pop_drop}
use Rattle.undoable.proofs.marks.roll_back.Goals as goal

pub loop-preserved : goal.loop-preserved
loop-preserved g c = (
  c.pop.ensures.stack ∙ ap pop_stack c.loop.invariant.0 ∙ pop_drop c.loop.counter (g.U.Undoable.stack c.args.structure.now),
  c.pop.ensures.tally ∙ c.loop.invariant.1,
  c.pop.ensures.kind ∙ c.loop.invariant.2,
)
