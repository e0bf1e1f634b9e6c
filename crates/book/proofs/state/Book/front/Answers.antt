use Rattle.std.proofs.Common.{◌≡◌, ◌+◌, take, ap, arith}
use Rattle.book.specs.Alive.{alive, equal_to}
use Rattle.book.specs.Records.{entered_of, withdrawn_of}
use Rattle.book.specs.View.{records_of}
use Rattle.book.proofs.Judging.{alive_by_counts}
use Rattle.book.proofs.state.Book.front.Goals as goal
use Rattle.book.proofs.state.Book.front.Goals.{In-None}

balance : (c : In-None) → equal_to c.args.fact (alive (take c.args.number (records_of c.args.self.now))) + c.loop-item.withdrawn ≡ c.loop-item.entered
balance c =
    let b = c.args.self.now in
    let none = c.in-None.ensures.steps.0 in
    omega (
      arith,
      alive_by_counts (records_of b) b.lawful c.args.number c.args.fact,
      c.loop-item.invariant.entered,
      c.loop-item.invariant.withdrawn,
      ap (entered_of c.args.fact) none,
      ap (withdrawn_of c.args.fact) none,
    )

pub overflow_sub-result : goal.overflow_sub-result
overflow_sub-result c = omega (arith, balance (goal.at.overflow_sub-result c).In-None)

pub returns-clause-equal : goal.returns-clause-equal
returns-clause-equal c = omega (arith, balance (goal.at.returns-clause-equal c).In-None)
