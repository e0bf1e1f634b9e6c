use Rattle.std.proofs.Common.{rules}
use Rattle.undoable.specs.Stacks.{held}
use Rattle.masks.proofs.Spanning.{spans}
use Rattle.masks.proofs.calls.MasksUndoable.ask.Goals as goal

pub returns : goal.returns
returns c =
    let s = spans (held c.args.self.now.history.stack) c.args.self.now.masks c.in_ok-mask.mask.bits in
    search rules
