-- What is laid at each node, for private contracts: the facts placed so far, the newest first.
use Rattle.std.specs.Prelude.{◌≡◌, ℕ, ◌<◌, List, [], ◌∷◌, ◌++◌, map, length, replicate, slice_index_or}
use Rattle.book.specs.declared.records.Record.{Record}
use Rattle.book.specs.Spans.{entries_from, span}
use Rattle.solver.specs.Chains.{times_in}
use Rattle.solver.specs.Folds.{numbers_of}

-- a fact by its record number, and its span
pub record Spanned : Type 0 where
  pub number : ℕ
  pub span : ℕ × ℕ

-- the facts of a book, in the order of entry
abbrev pub spanned : List Record → List Spanned
spanned rs = map (λ x. record { number = x.number; span = span rs x.number x.fact }) (entries_from 0 rs)

-- the record numbers at node number m of the tree over t questions, once these facts are placed
abbrev pub laid : ℕ → List Spanned → ℕ → List ℕ
laid t [] m = []
laid t (x ∷ xs) m = laid t xs m ++ replicate (times_in m (numbers_of x.span 0 0 t)) x.number

-- the spans' table has a pair for each of these facts
abbrev pub Tabled : List (List ℕ) → List Spanned → Type 0
Tabled ws xs = (k : ℕ) → k < length xs → slice_index_or ws k [] ≡ slice_index_or (map (λ x. x.span.0 ∷ (x.span.1 ∷ [])) xs) k []
