use Rattle.block_doubles.proofs.BestPairs.{best_of_all}
use Rattle.block_doubles.proofs.least.least_from.Goals as goal

pub returns : goal.returns
returns c = best_of_all c.args.sense c.args.guess c.args.row.now c.args.prices.now c.best_among.result c.best_among.ensures
