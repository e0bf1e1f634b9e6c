use Rattle.masks.specs.Meaning.{capacity_of}
use Rattle.masks.proofs.Swapping.{order_blind}
use Rattle.masks.proofs.calls.MasksUndoable.order_is_free.Goals as goal

pub returns : goal.returns
returns c = order_blind (capacity_of c.args.self.now)
