-- The list of records that a book stands for.
use Rattle.std.specs.Prelude.{ℕ, ◌*◌, List, take}
use Rattle.book.specs.declared.records.Record.{Record}
use Rattle.book.specs.declared.state.Book.{Book}
use Rattle.book.specs.Words.{reads}

-- the words in use
abbrev pub used_words : Book → List ℕ
used_words b = take (2 * b.records) b.words

abbrev pub records_of : Book → List Record
records_of b = reads (used_words b)
