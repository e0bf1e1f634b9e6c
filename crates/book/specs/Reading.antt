-- What reading record number n shows: the record and the place of its head word among the words.
use Rattle.std.specs.Prelude.{ℕ, ◌*◌, List, [], ◌∷◌, drop, Ok, Err, Result}
use Rattle.book.specs.declared.records.Record.{Record}
use Rattle.book.specs.declared.reading.Shown.{Shown}
use Rattle.book.specs.declared.refusals.ReadRefusal.{ReadRefusal}
use Rattle.book.specs.declared.refusals.ReadRefusal.TheVariants.{NoSuchRecord}

abbrev pub show_first : ℕ → List Record → Result Shown ReadRefusal
show_first p [] = Err NoSuchRecord
show_first p (r ∷ rs) = Ok (record { item = r; place = p })

abbrev pub shown_at : List Record → ℕ → Result Shown ReadRefusal
shown_at rs n = show_first (2 * n) (drop n rs)
