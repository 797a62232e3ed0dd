use Rattle.std.proofs.Common.{arith}
use Rattle.cost_lists.proofs.BlockHall.{few_for_persons}
use Rattle.cost_lists.proofs.law.blocks_forbid.Goals as goal

pub returns : goal.returns
returns c = λ sense rows blocks persons objects xs are rise within only fewer a.
    let most = few_for_persons sense rows blocks persons objects xs are rise within only a in omega arith
