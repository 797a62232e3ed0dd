use Rattle.price_log.proofs.Histories.{goes_on_itself, goes_on_through}
use Rattle.auction_tests.proofs.book.logs.raise_times.Goals as goal

pub loop-init : goal.loop-init
loop-init c = goes_on_itself c.args.log.now c.prices-log.ensures.log

pub loop-preserved : goal.loop-preserved
loop-preserved c = goes_on_through c.args.log.now c.loop.log c.raise_by_one.new.log c.loop.invariant
    c.in_ok-raise_by_one.ensures.continues c.in_ok-raise_by_one.ensures.below c.in_ok-raise_by_one.ensures.log
