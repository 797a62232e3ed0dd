use Rattle.c_wide.proofs.OddParts.{moved_power}
use Rattle.c_wide.proofs.exact.parts.parts_by.Goals as goal

pub returns-clause-size : goal.returns-clause-size
returns-clause-size c = moved_power c.args.digits c.args.shift c.zeros_of-zeros.result c.zeros_of-zeros.ensures.whole
