use Rattle.std.proofs.Common.{arith}
use Rattle.assign_core.proofs.Matchings.{owned_assigned}
use Rattle.assign_core.proofs.law.owners_make_an_assignment.Goals as goal

pub returns : goal.returns
returns c = λ rows owners xs m same own. owned_assigned rows owners xs m same (λ i low high. own i low (omega arith))
