use Rattle.std.proofs.Common.{◌≡◌, ℕ, ◌<◌, ◌≤◌, List, length, get_or, map, sym, ap, ◌∙◌, subst, inl, inr, ⊎_elim, arith, rules}
use Rattle.std.proofs.lemmas.List.{length-map, get_or-set_same}
use Rattle.std.proofs.lemmas.Bool.{cases_lt}
use Rattle.std.specs.List.{AllByRecursion}
use Rattle.book.specs.View.{records_of}
use Rattle.undoable.specs.declared.facts.Fact.{Fact}
use Rattle.undoable.specs.Calls.{cut_to}
use Rattle.solver.specs.Folds.{onto}
use Rattle.solver.specs.Nodes.{stack_from}
use Rattle.solver.specs.Placed.{facts_left, placed}
use Rattle.solver.specs.Walks.{AsksAdmitted, EntersAdmitted, facts_of, numbered_fact, numbered_question}
use Rattle.solver.proofs.Levels.{length-onto, cut-onto, stack_above, stack_leaf, weight_leaf}
use Rattle.solver.proofs.Nodes.{stack_first, stack_second, weight_halves}
use Rattle.solver.proofs.walking.+walk.Given as given
use Rattle.solver.proofs.walking.+walk.Goals as goal
use Rattle.solver.proofs.walking.+walk.Goals.{then-is_leaf, else-is_leaf, After-at, After-push_all}

-- the facts at each node, and the stack with those of this one
module _ (g : given.Over) (t : ℕ) (c : After-at g t) where
  abbrev G : ℕ → List Fact
  G = facts_of (records_of c.args.book.now) (placed c.args.chains.now)

  abbrev s0 : List Fact
  s0 = g.U.Undoable.stack c.args.structure.now

  own : length (facts_left c.at.result) ≡ length (G c.args.node.number)
  own = ap length c.at.ensures ∙ sym (length-map (placed c.args.chains.now c.args.node.number) (numbered_fact (records_of c.args.book.now)))

pub push_all-requires-clause-room : goal.push_all-requires-clause-room
push_all-requires-clause-room g t c =
    let v = c.args.node in
    omega (arith, c.requires.room v.tree.lo (omega arith) v.tree.some, stack_above (G g t c) v.tree.lo v.number v.tree.lo v.tree.hi v.tree.some (s0 g t c), length-onto (G g t c v.number) (s0 g t c), own g t c)

-- a clause on the second child is about the structure after the first child's walk, and the answers that it wrote
pub walk-requires : goal.walk-requires
walk-requires g t c κs within =
    let d = (goal.at.walk-requires g t c).After-at in
    let two = c.if-is_leaf.ensures in
    let e = c.push_all.ensures.kind in
    let pushed = c.push_all.ensures.stack ∙ ap (λ l. onto (map (numbered_fact (records_of c.args.book.now)) l) (s0 g t d)) c.at.ensures in (
      search rules,
      (
        within,
        (
          omega (arith, c.requires.within),
          (
            omega (arith, c.requires.numbered),
            (
              λ m. subst (λ k. AllByRecursion (EntersAdmitted k (records_of c.args.book.now)) (placed c.args.chains.now m)) (sym e) (c.requires.admitted m),
              (
                λ q a b. subst (λ k. AsksAdmitted k (records_of c.args.book.now) (get_or c.args.answers.now q 0)) (sym e) (c.requires.asked q (omega arith) (omega arith)),
                λ q a b. omega (arith, c.requires.room q (omega arith) (omega arith), ap length (stack_first two c.children.ensures (G g t d) q (s0 g t d) b), ap (λ s. length (stack_from (G g t d) c.children.result.0 q s)) pushed, ap (λ k. k.capacity) e),
              ),
            ),
          ),
        ),
      ),
    )

pub walk-requires-else-is_leaf : goal.walk-requires-else-is_leaf
walk-requires-else-is_leaf g t c κs within =
    let d = (goal.at.walk-requires-else-is_leaf g t c).After-at in
    let two = c.if-is_leaf.ensures in
    let e = c.walk.ensures.kind ∙ c.push_all.ensures.kind in
    let pushed = c.walk.ensures.stack ∙ c.push_all.ensures.stack ∙ ap (λ l. onto (map (numbered_fact (records_of c.args.book.now)) l) (s0 g t d)) c.at.ensures in (
      search rules,
      (
        within,
        (
          omega (arith, c.requires.within),
          (
            omega (arith, c.requires.numbered),
            (
              λ m. subst (λ k. AllByRecursion (EntersAdmitted k (records_of c.args.book.now)) (placed c.args.chains.now m)) (sym e) (c.requires.admitted m),
              (
                λ q a b. subst (λ n. AsksAdmitted (g.U.Undoable.kind c.walk.new.structure) (records_of c.args.book.now) n) (sym (c.walk.ensures.others q (inr (omega arith)))) (subst (λ k. AsksAdmitted k (records_of c.args.book.now) (get_or c.args.answers.now q 0)) (sym e) (c.requires.asked q (omega arith) (omega arith))),
                λ q a b. omega (arith, c.requires.room q (omega arith) (omega arith), ap length (stack_second two c.children.ensures (G g t d) q (s0 g t d) a), ap (λ s. length (stack_from (G g t d) c.children.result.1 q s)) pushed, ap (λ k. k.capacity) e),
              ),
            ),
          ),
        ),
      ),
    )

pub returns-clause-stack : goal.returns-clause-stack
returns-clause-stack g t c =
    let d = (goal.at.returns-clause-stack g t c).After-at in
    let pushed : g.U.Undoable.stack c.push_all.new.structure ≡ onto (G g t d c.args.node.number) (s0 g t d) = c.push_all.ensures.stack ∙ ap (λ l. onto (map (numbered_fact (records_of c.args.book.now)) l) (s0 g t d)) c.at.ensures in
    let back : g.U.Undoable.stack c.if-is_leaf.structure ≡ g.U.Undoable.stack c.push_all.new.structure = elim c.if-is_leaf.branch [ then-is_leaf w ↦ ap g.U.Undoable.stack w.structure-is | else-is_leaf w ↦ ap g.U.Undoable.stack w.structure-is ∙ w.walk-else-is_leaf.ensures.stack ∙ w.walk.ensures.stack ] in
    c.roll_back.ensures.stack ∙ (λ i. cut_to (c.take_mark-mark.ensures i) ((back ∙ pushed) i)) ∙ cut-onto (G g t d c.args.node.number) (s0 g t d)

pub returns-clause-tally : goal.returns-clause-tally
returns-clause-tally g t c =
    let d = (goal.at.returns-clause-tally g t c).After-at in
    let v = c.args.node in
    elim c.if-is_leaf.branch [
      | then-is_leaf w ↦ omega (arith, own g t d, ap g.U.Undoable.pushes w.structure-is, weight_leaf (G g t d) v.number v.tree.lo v.tree.hi v.tree.some w.if-is_leaf.ensures)
      | else-is_leaf w ↦ omega (arith, own g t d, ap g.U.Undoable.pushes w.structure-is, weight_halves w.if-is_leaf.ensures w.children.ensures (G g t d))
    ]

pub returns-clause-told : goal.returns-clause-told
returns-clause-told g t c q a b =
    let d = (goal.at.returns-clause-told g t c).After-at in
    let v = c.args.node in
    let rs = records_of c.args.book.now in
    let e1 = c.push_all.ensures.kind in
    let st1 = c.push_all.ensures.stack ∙ ap (λ l. onto (map (numbered_fact rs) l) (s0 g t d)) c.at.ensures in
    elim c.if-is_leaf.branch [
      | then-is_leaf w ↦
          let here : q ≡ c.args.node.tree.lo = omega (arith, w.if-is_leaf.ensures) in
          let lt : c.args.node.tree.lo < length c.args.answers.now = omega (arith, c.requires.within) in
          (λ i. get_or (w.answers-is i) (here i) 0)
          ∙ get_or-set_same c.args.answers.now v.tree.lo w.answer.result 0 lt
          ∙ w.answer.ensures
          ∙ (λ i. (e1 i).rule ((st1 ∙ sym (stack_leaf (G g t d) q v.number v.tree.lo v.tree.hi v.tree.some w.if-is_leaf.ensures (s0 g t d))) i) (numbered_question rs (get_or c.args.answers.now (sym here i) 0)))
      | else-is_leaf w ↦
          let two = w.if-is_leaf.ensures in
          let f = w.children.ensures in
          let e2 = w.walk.ensures.kind ∙ e1 in
          let st2 = w.walk.ensures.stack ∙ st1 in
          ap (λ l. get_or l q 0) w.answers-is
          ∙ ⊎_elim
          (λ (h : q < w.children.result.0.tree.hi).
          w.walk-else-is_leaf.ensures.others q (inl (omega (arith, h)))
          ∙ w.walk.ensures.told q (omega arith) h
          ∙ (λ i. (e1 i).rule ((ap (stack_from (G g t d) w.children.result.0 q) st1 ∙ sym (stack_first two f (G g t d) q (s0 g t d) h)) i) (numbered_question rs (get_or c.args.answers.now q 0))))
          (λ (h : w.children.result.0.tree.hi ≤ q).
          w.walk-else-is_leaf.ensures.told q (omega (arith, h)) (omega arith)
          ∙ (λ i. (e2 i).rule ((ap (stack_from (G g t d) w.children.result.1 q) st2 ∙ sym (stack_second two f (G g t d) q (s0 g t d) (omega (arith, h)))) i) (numbered_question rs (w.walk.ensures.others q (inr h) i))))
          (cases_lt q w.children.result.0.tree.hi)
    ]
