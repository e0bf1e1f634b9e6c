-- The nodes of the tree with their numbers, for private contracts: a node's children, and what lies at a node and below it.
use Rattle.std.specs.Prelude.{◌≡◌, ℕ, ◌+◌, ◌-◌, ◌*◌, List}
use Rattle.undoable.specs.declared.facts.Fact.{Fact}
use Rattle.book.specs.declared.records.Record.{Record}
use Rattle.book.specs.Records.{question_count}
use Rattle.solver.specs.declared.span.Span.{Span}
use Rattle.solver.specs.declared.subtree.TreeNode.{TreeNode}
use Rattle.solver.specs.Folds.{numbers_of, stack_to, weight}
use Rattle.solver.specs.Tree.{middle}

-- l and r are the children of v
pub record AreChildren (v l r : TreeNode) : Type 0 where
  pub left_number : l.number ≡ v.number + 1
  pub left_lo : l.tree.lo ≡ v.tree.lo
  pub left_hi : l.tree.hi ≡ middle v.tree.lo v.tree.hi
  pub right_number : r.number ≡ v.number + 2 * (middle v.tree.lo v.tree.hi - v.tree.lo)
  pub right_lo : r.tree.lo ≡ middle v.tree.lo v.tree.hi
  pub right_hi : r.tree.hi ≡ v.tree.hi

-- v is the root of the tree over a book's questions
abbrev pub IsRoot : List Record → TreeNode → Type 0
IsRoot rs v = (v.number ≡ 0) × (v.tree.lo ≡ 0) × (v.tree.hi ≡ question_count rs)

-- the numbers of a span's pieces among a node and those below it
abbrev pub pieces_under : TreeNode → Span → List ℕ
pieces_under v x = numbers_of (x.start, x.end) v.number v.tree.lo v.tree.hi

-- the stack at question q, if the facts g of each node from this one down to the question are pushed on st
abbrev pub stack_from : (ℕ → List Fact) → TreeNode → ℕ → List Fact → List Fact
stack_from g v q st = stack_to g v.number v.tree.lo v.tree.hi q st

-- how many facts lie at the node and below it
abbrev pub weight_from : (ℕ → List Fact) → TreeNode → ℕ
weight_from g v = weight g v.number v.tree.lo v.tree.hi
