use Rattle.block_doubles.proofs.BestPairs.{passed_more}
use Rattle.block_doubles.proofs.least.best_of_step.Goals as goal

pub returns-then-are_above_guess : goal.returns-then-are_above_guess
returns-then-are_above_guess c =
    passed_more c.args.sense c.args.guess c.args.row.now c.args.prices.now c.args.from c.args.to c.args.best c.requires.best
    (c.are_above_guess.ensures c.if-are_above_guess.true)
