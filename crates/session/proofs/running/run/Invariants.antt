-- What is told and what the calls ahead come to; that the structure is of the same kind; room for the calls ahead.
use Rattle.std.proofs.Common.{◌≡◌, ◌+◌, ◌≤◌, ◌++◌, vec_items, vec_len, vec_capacity}
use Rattle.std.specs.Vec.Iter.{into_iter_items, into_iter_len}
use Rattle.session.specs.Model.{outcomes, finally}
use Rattle.session.specs.Sessions.{state_of}
use Rattle.session.proofs.running.run.Given as goal

abbrev pub invariant-loop-call : goal.invariant-loop-call
invariant-loop-call g l =
    let k = g.U.Undoable.kind l.initial.session.structure.now in
    let now = state_of g.U.Undoable.stack g.U.Undoable.pushes l.session in
    let first = state_of g.U.Undoable.stack g.U.Undoable.pushes l.initial.session in
    record {
      can_go_on : (goal.iterator-loop-call g).can_next l.call-iterator;
      ends : (goal.iterator-loop-call g).is_finite l.call-iterator;
      told : vec_items l.outcomes ++ outcomes k now (into_iter_items l.call-iterator) ≡ outcomes k first (into_iter_items l.initial.call-iterator);
      left : finally k now (into_iter_items l.call-iterator) ≡ finally k first (into_iter_items l.initial.call-iterator);
      same_kind : g.U.Undoable.kind l.session.structure.now ≡ k;
      same_structure : l.session.structure.ghost_name ≡ l.initial.session.structure.ghost_name;
      same_book : l.session.book.ghost_name ≡ l.initial.session.book.ghost_name;
      same_marks : l.session.marks.ghost_name ≡ l.initial.session.marks.ghost_name;
      outcomes_room : vec_len l.outcomes + into_iter_len l.call-iterator ≤ vec_capacity l.outcomes;
      marks_room : into_iter_len l.call-iterator ≤ l.session.marks.now.room;
    }
