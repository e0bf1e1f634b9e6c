-- The loader between two words: what comes of the words ahead, given the head word that waits for its second word, if any.
use Rattle.std.specs.Prelude.{◌≡◌, ℕ, ◌+◌, ◌-◌, true, List, ◌∷◌, Option, Some, None, Result}
use Rattle.book.specs.declared.records.Record.{Record}
use Rattle.book.specs.declared.refusals.LoadError.{LoadError}
use Rattle.book.specs.Loads.{loads_from}
use Rattle.book.specs.Words.{is_head}

-- a head word that waits stands right before place p
abbrev pub Waits : ℕ → Option ℕ → Type 0
Waits p None = Unit {0}
Waits p (Some h) = (is_head h ≡ true) × (p - 1 + 1 ≡ p)

abbrev pub ahead : ℕ → List Record → Option ℕ → List ℕ → Result (List Record) LoadError
ahead p rs None ws = loads_from p rs ws
ahead p rs (Some h) ws = loads_from (p - 1) rs (h ∷ ws)
