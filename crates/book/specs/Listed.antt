-- The records that an iterator over words still gives.
use Rattle.std.specs.Prelude.{List}
use Rattle.book.specs.declared.iteration.Records.{Records}
use Rattle.book.specs.declared.records.Record.{Record}
use Rattle.book.specs.Words.{reads}

abbrev pub listed : Records → List Record
listed r = reads r.words.now
