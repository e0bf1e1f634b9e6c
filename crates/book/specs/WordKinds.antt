-- The kinds of a word and their numbers.
use Rattle.std.specs.Prelude.{ℕ, Option, Some, None, if◌then◌else◌, ◌==◌}
use Rattle.book.specs.declared.kinds.WordKind.{WordKind}
use Rattle.book.specs.declared.kinds.WordKind.TheVariants.{Fact, Withdrawal, Question, Second}

abbrev pub kind_number : WordKind → ℕ
kind_number Fact = 1
kind_number Withdrawal = 2
kind_number Question = 3
kind_number Second = 4

abbrev pub kind_numbered : ℕ → Option WordKind
kind_numbered k = if k == 1 then Some Fact else (if k == 2 then Some Withdrawal else (if k == 3 then Some Question else (if k == 4 then Some Second else None)))
