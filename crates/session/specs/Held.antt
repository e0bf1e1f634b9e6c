-- The marks that a session holds, as the model notes them.
use Rattle.std.specs.Prelude.{◌≡◌, ℕ, suc, ◌-◌, ◌≤◌, List, [], ◌∷◌, Some, None, vec_items, vec_len, vec_capacity, Option}
use Rattle.undoable.specs.declared.marks.Mark.{Mark}
use Rattle.session.specs.declared.held.Marks.TheInside.{Inside}
use Rattle.session.specs.Model.{Noted}

-- how many marks are taken, those that are not given back, and how many more have room
pub record Notes : Type 0 where
  pub taken : ℕ
  pub noted : List Noted
  pub room : ℕ

-- the marks held at the numbers from n on
abbrev pub noted_from : ℕ → List (Option Mark) → List Noted
noted_from n [] = []
noted_from n (None ∷ ms) = noted_from (suc n) ms
noted_from n (Some m ∷ ms) = record { number = n; height = m.height } ∷ noted_from (suc n) ms

abbrev pub notes_of : Inside → Notes
notes_of a = record { taken = vec_len a.held; noted = noted_from 0 (vec_items a.held); room = vec_capacity a.held - vec_len a.held }

-- each mark that has room has room for its height, too
abbrev pub HeightsReserved : Inside → Type 0
HeightsReserved a = (vec_len a.heights ≡ 0) × (vec_capacity a.held ≤ vec_capacity a.heights)

-- the height of a mark that was found
abbrev pub height_in : Option Mark → Option ℕ
height_in None = None
height_in (Some m) = Some m.height
