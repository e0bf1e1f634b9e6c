use Rattle.std.proofs.Common.{◌≡◌, ◌<◌, List, ◌∷◌, length, sym, ap, ◌∙◌, arith}
use Rattle.std.proofs.lemmas.List.{length-map}
use Rattle.undoable.specs.Stacks.{held}
use Rattle.undoable.proofs.Pushing.{push_stack_lem}
use Rattle.prizes.specs.declared.lines.Prize.{Prize}
use Rattle.prizes.specs.Meaning.{kind_of, stack_of}
use Rattle.prizes.specs.Rule.{admits_prize}
use Rattle.prizes.specs.Saved.{fact_of, facts_of}
use Rattle.prizes.proofs.Histories.{put_refused, put_accepted, put_room}
use Rattle.prizes.proofs.Holding.{refused, pushed}
use Rattle.prizes.proofs.calls.PrizesUndoable.push.Goals as goal
use Rattle.prizes.proofs.calls.PrizesUndoable.push.Goals.{After-add}

pub invariant_of-self : goal.invariant_of-self
invariant_of-self c =
    let p = c.args.self.now in
    refused p (held c.push.new.self.stack) _ c.push.ensures.room c.push.new.self.limit c.push.ensures.limit
    (c.push.ensures.held ∙ put_refused p.history.limit (held p.history.stack) c.from-prize.result _ (sym c.push.ensures.result ∙ c.in_err-push.was))

module _ (c : After-add) where
  abbrev ps : List Prize
  ps = held c.args.self.now.history.stack

  room : length (held c.args.self.now.history.stack) < c.args.self.now.history.limit
  room = put_room c.args.self.now.history.limit ps (sym c.push.ensures.result ∙ c.in_ok-push.was)

  on_top : held c.push.new.self.stack ≡ c.from-prize.result ∷ ps
  on_top = c.push.ensures.held ∙ put_accepted c.args.self.now.history.limit ps c.from-prize.result (sym c.push.ensures.result ∙ c.in_ok-push.was)

pub invariant_of-self-2 : goal.invariant_of-self-2
invariant_of-self-2 c =
    pushed c.args.self.now (held c.push.new.self.stack) _ c.push.ensures.room c.push.new.self.limit c.push.ensures.limit c.from-prize.result c.height-at.result c.add.new.self (on_top c) c.height-at.ensures
    (omega (arith, room c, c.height-at.ensures)) (ap (λ (q : Prize). admits_prize (fact_of q)) c.from-prize.ensures ∙ sym c.if-not-is_prize.ensures) c.add.ensures.row c.add.ensures.saved

pub returns-clause-stack : goal.returns-clause-stack
returns-clause-stack c =
    let p = c.args.self.now in
    let d = (goal.at.returns-clause-stack c).After-add in
    ap facts_of (on_top d)
    ∙ ap (λ (q : Prize). fact_of q ∷ stack_of p) c.from-prize.ensures
    ∙ sym (push_stack_lem (kind_of p) (stack_of p) c.args.fact (sym c.if-not-is_prize.ensures) (omega (arith, room d, length-map (held p.history.stack) fact_of)))
