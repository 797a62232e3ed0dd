use Rattle.std.proofs.Common.{arith}
use Rattle.hungarian.proofs.solver.serve.Goals as goal

pub search-requires-clause-alone : goal.search-requires-clause-alone
search-requires-clause-alone c = c.requires.assigned.fresh c.args.person (let a = c.requires.person.first in omega arith)
