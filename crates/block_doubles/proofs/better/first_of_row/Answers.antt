use Rattle.double_checker.specs.inside.Pairs.{paid}
use Rattle.block_doubles.proofs.BestPairs.{none_by_least}
use Rattle.block_doubles.proofs.better.first_of_row.Goals as goal

pub returns-then-not-is_least_under : goal.returns-then-not-is_least_under
returns-then-not-is_least_under c =
    none_by_least c.args.sense (paid c.args.sense c.args.number_cost c.args.number_price) c.args.row.now c.args.prices.now
    c.args.object c.args.cost c.requires.least (c.is_least_under.ensures c.if-not-is_least_under.true)
