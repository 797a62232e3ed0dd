use Rattle.std.proofs.Common.{arith}
use Rattle.cost_lists.proofs.Rising.{risen}
use Rattle.cost_lists.proofs.number_lists.rises.Goals as goal

pub loop-i-preserved : goal.loop-i-preserved
loop-i-preserved c = risen c.args.numbers.now c.loop-i.i (omega arith) (omega arith) c.loop-i.invariant
