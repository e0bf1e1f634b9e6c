use Rattle.std.proofs.Common.{get_or, rules}
use Rattle.prizes.specs.Rule.{with_most}
use Rattle.prizes.proofs.Filling.{from_fn_is}
use Rattle.prizes.proofs.rows.row_with_line.Goals as goal

pub returns : goal.returns
returns c =
    from_fn_is _ (λ v. with_most c.args.prize.amount (λ w. get_or c.args.base.now w 0) v c.args.prize.copies) _ (λ x r q k. search rules) 1001 c.from_fn.result c.from_fn.ensures.items
