-- The number and the place of a refused load.
use Rattle.std.specs.Prelude.{ℕ}
use Rattle.book.specs.declared.refusals.LoadError.{LoadError}
use Rattle.book.specs.declared.refusals.LoadError.TheVariants as from
use Rattle.book.specs.declared.refusals.Refusal.{Refusal}
use Rattle.book.specs.declared.refusals.Refusal.TheVariants.{FieldTooLarge, BookFull, NothingAlive, TooManyQuestions}
use Rattle.book.specs.declared.refusals.WordFault.{WordFault}
use Rattle.book.specs.declared.refusals.WordFault.TheVariants.{WrongKind, HeadAtEnd}

abbrev pub refusal_number : Refusal → ℕ
refusal_number FieldTooLarge = 1
refusal_number BookFull = 2
refusal_number NothingAlive = 3
refusal_number TooManyQuestions = 4

abbrev pub fault_number : WordFault → ℕ
fault_number WrongKind = 5
fault_number HeadAtEnd = 6

abbrev pub number_of : LoadError → ℕ
number_of (from.Words e) = fault_number e.fault
number_of (from.Book e) = refusal_number e.refusal

abbrev pub place_of : LoadError → ℕ
place_of (from.Words e) = e.place
place_of (from.Book e) = e.place
