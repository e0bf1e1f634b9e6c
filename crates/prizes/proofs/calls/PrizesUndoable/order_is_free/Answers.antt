use Rattle.prizes.specs.Meaning.{capacity_of}
use Rattle.prizes.proofs.Swapping.{order_blind}
use Rattle.prizes.proofs.calls.PrizesUndoable.order_is_free.Goals as goal

pub returns : goal.returns
returns c = order_blind (capacity_of c.args.self.now)
