-- One level of the tree, from a node to its children.
use Rattle.std.proofs.Common.{◌≡◌, ℕ, ◌+◌, ◌-◌, ◌<◌, ◌≤◌, ◌⊎◌, List, ◌++◌, length, sym, ap, ◌∙◌, arith}
use Rattle.std.proofs.lemmas.List.{length-append}
use Rattle.undoable.specs.declared.facts.Fact.{Fact}
use Rattle.solver.specs.declared.span.Span.{Span}
use Rattle.solver.specs.declared.subtree.TreeNode.{TreeNode}
use Rattle.solver.specs.Folds.{numbers_of, onto, stack_to, weight}
use Rattle.solver.specs.Nodes.{AreChildren, pieces_under, stack_from, weight_from}
use Rattle.solver.proofs.Levels.{stack_left, stack_right, weight_parts}
use Rattle.solver.proofs.Numbering.{numbers_parts}

module _ {v l r : TreeNode} (two : 2 ≤ v.tree.hi - v.tree.lo) (c : AreChildren v l r) where
  pub pieces_halves : (x : Span) → (v.tree.lo < x.start) ⊎ (x.end < v.tree.hi) → pieces_under v x ≡ pieces_under l x ++ pieces_under r x
  pieces_halves x off =
      numbers_parts x.start x.end v.number v.tree.lo v.tree.hi off two
      ∙ sym (λ i. numbers_of (x.start, x.end) (c.left_number i) (c.left_lo i) (c.left_hi i) ++ numbers_of (x.start, x.end) (c.right_number i) (c.right_lo i) (c.right_hi i))

  pub count_halves : (x : Span) → (v.tree.lo < x.start) ⊎ (x.end < v.tree.hi) → length (pieces_under v x) ≡ length (pieces_under l x) + length (pieces_under r x)
  count_halves x off = ap length (pieces_halves x off) ∙ length-append (pieces_under l x) (pieces_under r x)

  module _ (g : ℕ → List Fact) where
    pub stack_first : (q : ℕ) (st : List Fact) → q < l.tree.hi → stack_from g v q st ≡ stack_from g l q (onto (g v.number) st)
    stack_first q st h =
        stack_left g q v.number v.tree.lo v.tree.hi two st (omega (arith, c.left_hi))
        ∙ sym (λ i. stack_to g (c.left_number i) (c.left_lo i) (c.left_hi i) q (onto (g v.number) st))

    pub stack_second : (q : ℕ) (st : List Fact) → r.tree.lo ≤ q → stack_from g v q st ≡ stack_from g r q (onto (g v.number) st)
    stack_second q st h =
        stack_right g q v.number v.tree.lo v.tree.hi two st (omega (arith, c.right_lo))
        ∙ sym (λ i. stack_to g (c.right_number i) (c.right_lo i) (c.right_hi i) q (onto (g v.number) st))

    pub weight_halves : weight_from g v ≡ length (g v.number) + (weight_from g l + weight_from g r)
    weight_halves =
        weight_parts g v.number v.tree.lo v.tree.hi two
        ∙ sym (λ i. length (g v.number) + (weight g (c.left_number i) (c.left_lo i) (c.left_hi i) + weight g (c.right_number i) (c.right_lo i) (c.right_hi i)))
