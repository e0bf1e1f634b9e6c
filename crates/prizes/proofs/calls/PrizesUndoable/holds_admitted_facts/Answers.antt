use Rattle.undoable.proofs.Admitting.{admitted_all}
use Rattle.prizes.specs.Meaning.{kind_of, stack_of}
use Rattle.prizes.proofs.calls.PrizesUndoable.holds_admitted_facts.Goals as goal

pub returns : goal.returns
returns c = admitted_all (kind_of c.args.self.now) (stack_of c.args.self.now) c.args.self.now.admitted
