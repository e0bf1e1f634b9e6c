use Rattle.std.proofs.Common.{◌≡◌, ◌+◌, ◌%◌, ◌^◌, ◌≤◌, map, length}
use Rattle.std.specs.List.{AllByRecursion}
use Rattle.book.specs.View.{records_of}
use Rattle.solver.specs.Placed.{facts_left}
use Rattle.solver.specs.Folds.{onto}
use Rattle.solver.specs.Walks.{EntersAdmitted, numbered_fact}
use Rattle.solver.proofs.walking.push_all.Given as goal

abbrev pub invariant-loop-number : goal.invariant-loop-number
invariant-loop-number g l =
    (goal.iterator-loop-number g).can_next l.number-iterator
    × (goal.iterator-loop-number g).is_finite l.number-iterator
    × (onto (map (numbered_fact (records_of l.book)) (facts_left l.number-iterator)) (g.U.Undoable.stack l.structure) ≡ onto (map (numbered_fact (records_of l.book)) (facts_left l.fn.chain)) (g.U.Undoable.stack l.initial.structure))
    × ((g.U.Undoable.pushes l.structure + length (facts_left l.number-iterator)) % 2 ^ 32 ≡ (g.U.Undoable.pushes l.initial.structure + length (facts_left l.fn.chain)) % 2 ^ 32)
    × (g.U.Undoable.kind l.structure ≡ g.U.Undoable.kind l.initial.structure)
    × AllByRecursion (EntersAdmitted (g.U.Undoable.kind l.initial.structure) (records_of l.book)) (facts_left l.number-iterator)
    × (length (g.U.Undoable.stack l.structure) + length (facts_left l.number-iterator) ≤ (g.U.Undoable.kind l.initial.structure).capacity)
