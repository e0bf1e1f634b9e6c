use Rattle.undoable.specs.Stacks.{held}
use Rattle.masks.specs.Meaning.{capacity_of}
use Rattle.masks.proofs.Fielding.{all_fit}
use Rattle.masks.proofs.calls.MasksUndoable.holds_admitted_facts.Goals as goal

pub returns : goal.returns
returns c = all_fit (capacity_of c.args.self.now) (held c.args.self.now.history.stack) c.args.self.now.masks
