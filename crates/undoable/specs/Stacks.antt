-- The list that a rollback stack holds, the newest first: what lies below its height in the memory lent to it.
use Rattle.std.specs.Prelude.{ℕ, cond, List, [], ◌∷◌, reverse, length, take, Ok, Err, Result, nat_lt}
use Rattle.undoable.specs.declared.refusals.PopRefusal.{PopRefusal}
use Rattle.undoable.specs.declared.refusals.PopRefusal.TheVariants.{Empty}
use Rattle.undoable.specs.declared.refusals.PushRefusal.{PushRefusal}
use Rattle.undoable.specs.declared.refusals.PushRefusal.TheVariants.{Full}
use Rattle.undoable.specs.declared.rollback.Stack.{Stack}

module _ {X : Type 0} where
  abbrev pub held : Stack X → List X
  held s = reverse (take s.height s.cells.now)

  -- the number of records in the memory lent to it
  abbrev pub room : Stack X → ℕ
  room s = length s.cells.now

  abbrev pub put_result : ℕ → List X → Result (Unit {0}) PushRefusal
  put_result n xs = cond (nat_lt (length xs) n) (Ok tt) (Err Full)

  abbrev pub put_after : ℕ → List X → X → List X
  put_after n xs x = cond (nat_lt (length xs) n) (x ∷ xs) xs

  abbrev pub take_result : List X → Result X PopRefusal
  take_result [] = Err Empty
  take_result (x ∷ xs) = Ok x

  abbrev pub take_after : List X → List X
  take_after [] = []
  take_after (x ∷ xs) = xs
