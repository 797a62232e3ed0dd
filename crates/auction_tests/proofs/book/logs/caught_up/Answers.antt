use Rattle.std.proofs.Common.{◌∙◌}
use Rattle.price_log.proofs.Histories.{copy_stays}
use Rattle.auction_tests.proofs.book.logs.caught_up.Goals as goal

pub catch_up-requires : goal.catch_up-requires
catch_up-requires c = copy_stays c.args.log.now c.raise_times.new.log c.in_ok-table.table _ (c.in_ok-table.ensures ∙
    c.prices.ensures.prices) c.version-version.ensures c.prices.ensures.log c.in_ok-raise_times.ensures.continues
    c.in_ok-raise_times.ensures.below
