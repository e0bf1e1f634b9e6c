use Rattle.std.proofs.Common.{◌≡◌, ◌<◌, ℕ, List, length, sym, ap, ◌∙◌, subst, arith}
use Rattle.undoable.specs.declared.facts.Fact.{Fact}
use Rattle.undoable.specs.Kinds.{Kind}
use Rattle.book.specs.declared.records.Record.{Record}
use Rattle.book.specs.Records.{question_count}
use Rattle.book.specs.View.{records_of}
use Rattle.solver.specs.Nodes.{stack_from, weight_from}
use Rattle.solver.specs.Placed.{placed}
use Rattle.solver.specs.Folds.{stack_to, weight}
use Rattle.solver.specs.Walks.{AsksAdmitted, facts_of, numbered_question}
use Rattle.solver.proofs.Answering.{node_admitted, stack_room, question_admitted, stack_answer, pushed}
use Rattle.solver.proofs.solving.answer_numbered.Given as given
use Rattle.solver.proofs.solving.answer_numbered.Goals as goal
use Rattle.solver.proofs.solving.answer_numbered.Goals.{After-holds_admitted_facts}

module _ (g : given.Over) (c : After-holds_admitted_facts g) where
  abbrev k : Kind
  k = g.U.Undoable.kind c.args.structure.now

  abbrev st : List Fact
  st = g.U.Undoable.stack c.args.structure.now

  abbrev rs : List Record
  rs = records_of c.args.book.now

  abbrev xs : ℕ → List ℕ
  xs = placed c.args.chains.now

  -- the whole tree
  all : (q : ℕ) → stack_from (facts_of rs xs) c.args.root q st ≡ stack_to (facts_of rs xs) 0 0 (question_count rs) q st
  all q = λ i. stack_to (facts_of rs xs) (c.requires.root.0 i) (c.requires.root.1 i) (c.requires.root.2 i) q st

pub walk-requires-clause-admitted : goal.walk-requires-clause-admitted
walk-requires-clause-admitted g c =
    let d = (goal.at.walk-requires-clause-admitted g c).After-holds_admitted_facts in
    node_admitted (k g d) (st g d) (rs g d) (xs g d) c.requires.laid c.requires.accepted.fit

pub walk-requires-clause-asked : goal.walk-requires-clause-asked
walk-requires-clause-asked g c =
    let d = (goal.at.walk-requires-clause-asked g c).After-holds_admitted_facts in
    λ q a b.
    let h : q < question_count (records_of c.args.book.now) = omega (arith, c.requires.root) in
    subst (AsksAdmitted (k g d) (rs g d)) (sym (c.requires.numbered q h)) (question_admitted (k g d) (st g d) (rs g d) (xs g d) c.requires.laid c.requires.accepted.fit q h)

pub walk-requires-clause-room : goal.walk-requires-clause-room
walk-requires-clause-room g c =
    let d = (goal.at.walk-requires-clause-room g c).After-holds_admitted_facts in
    λ q a b.
    let h : q < question_count (records_of c.args.book.now) = omega (arith, c.requires.root) in
    omega (arith, ap length (all g d q), stack_room (k g d) (st g d) (rs g d) (xs g d) c.requires.laid c.requires.accepted.room q h)

pub returns-clause-told : goal.returns-clause-told
returns-clause-told g c = λ q h.
    let d = (goal.at.returns-clause-told g c).After-holds_admitted_facts in
    c.walk.ensures.told q (omega (arith, c.requires.root)) (omega (arith, c.requires.root))
    ∙ (λ i. (k g d).rule (all g d q i) (numbered_question (rs g d) (c.requires.numbered q h i)))
    ∙ stack_answer (k g d) (st g d) (rs g d) (xs g d) c.requires.laid c.requires.accepted.fit c.order_is_free.ensures c.holds_admitted_facts.ensures q h

pub returns-clause-tally : goal.returns-clause-tally
returns-clause-tally g c =
    let d = (goal.at.returns-clause-tally g c).After-holds_admitted_facts in
    let whole : weight_from (facts_of (rs g d) (xs g d)) c.args.root ≡ weight (facts_of (rs g d) (xs g d)) 0 0 (question_count (rs g d)) = λ i. weight (facts_of (rs g d) (xs g d)) (c.requires.root.0 i) (c.requires.root.1 i) (c.requires.root.2 i) in
    omega (arith, c.walk.ensures.tally, whole, pushed (k g d) (st g d) (rs g d) (xs g d) c.requires.laid (omega (arith, c.requires.root, c.args.root.tree.some)))
