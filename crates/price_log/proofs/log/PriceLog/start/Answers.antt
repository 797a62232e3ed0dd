use Rattle.price_log.proofs.Histories.{started_is}
use Rattle.price_log.proofs.log.PriceLog.start.Goals as goal

pub invariant_of-result : goal.invariant_of-result
invariant_of-result c = rw (c.in_ok-copy.ensures, c.new.ensures.items) (started_is c.args.prices c.as_slice-table.ensures.table)
