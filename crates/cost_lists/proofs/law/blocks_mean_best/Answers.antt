use Rattle.cost_lists.proofs.BlockDuality.{best_of_blocks}
use Rattle.cost_lists.proofs.law.blocks_mean_best.Goals as goal

pub returns : goal.returns
returns c = best_of_blocks
