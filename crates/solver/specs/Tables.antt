-- The work tables as pairs of words, for private contracts.
use Rattle.std.specs.Prelude.{◌≡◌, ℕ, ◌*◌, ◌/◌, ◌≤◌, List, length}
use Rattle.book.specs.declared.records.Record.{Record}
use Rattle.book.specs.Records.{fact_count, question_count}
use Rattle.solver.specs.declared.tables.Tables.{Tables}
use Rattle.solver.specs.declared.tables.WorkTable.{WorkTable}
use Rattle.solver.specs.declared.tables.WorkTable.TheVariants.{Spans, Nodes, Pieces}
use Rattle.solver.specs.Laid.{Tabled, spanned}
use Rattle.solver.specs.Solving.{Sizes, piece_total}

abbrev pub table_number : WorkTable → ℕ
table_number Spans = 0
table_number Nodes = 1
table_number Pieces = 2

-- tables of these sizes in words have as many pairs
abbrev pub Measures : Sizes → Tables → Type 0
Measures z t = (z.spans / 2 ≡ length t.spans.now) × (z.nodes / 2 ≡ length t.nodes.now) × (z.pieces / 2 ≡ length t.pieces.now)

-- they are long enough for a book, and have the spans of its facts
pub record RoomFor (rs : List Record) (t : Tables) : Type 0 where
  pub spans_long : fact_count rs ≤ length t.spans.now
  pub nodes_long : 2 * question_count rs ≤ length t.nodes.now
  pub pieces_long : piece_total rs ≤ length t.pieces.now
  pub tabled : Tabled t.spans.now (spanned rs)
