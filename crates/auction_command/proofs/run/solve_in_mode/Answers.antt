use Rattle.auction_command.proofs.Starts.{low_greatest}
use Rattle.auction_command.proofs.run.solve_in_mode.Goals as goal

pub solve_rounds_by-requires-clause-low : goal.solve_rounds_by-requires-clause-low
solve_rounds_by-requires-clause-low g c = low_greatest c.args.prices c.requires.low

pub solve_workers_from-requires-clause-low : goal.solve_workers_from-requires-clause-low
solve_workers_from-requires-clause-low g c κs within = low_greatest c.args.prices c.requires.low
