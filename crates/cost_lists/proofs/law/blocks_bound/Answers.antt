use Rattle.cost_lists.proofs.BlockDuality.{bound_of_blocks}
use Rattle.cost_lists.proofs.law.blocks_bound.Goals as goal

pub returns : goal.returns
returns c = bound_of_blocks
