use Rattle.bands.specs.Meaning.{capacity_of}
use Rattle.bands.proofs.Ordering.{order_blind}
use Rattle.bands.proofs.calls.BandsUndoable.order_is_free.Goals as goal

pub returns : goal.returns
returns c = order_blind (capacity_of c.args.self.now)
