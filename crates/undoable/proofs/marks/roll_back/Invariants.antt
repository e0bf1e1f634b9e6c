use Rattle.std.proofs.Common.{◌≡◌, drop}
use Rattle.undoable.proofs.marks.roll_back.Given as goal

abbrev pub invariant-loop : goal.invariant-loop
invariant-loop g l =
    (g.U.Undoable.stack l.structure ≡ drop l.counter (g.U.Undoable.stack l.initial.structure))
    × (g.U.Undoable.pushes l.structure ≡ g.U.Undoable.pushes l.initial.structure)
    × (g.U.Undoable.kind l.structure ≡ g.U.Undoable.kind l.initial.structure)
