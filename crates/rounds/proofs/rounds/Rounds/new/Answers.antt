use Rattle.std.proofs.Common.{subst}
use Rattle.rounds.specs.inside.Similar.{AreSimilar}
use Rattle.rounds.proofs.rounds.Rounds.new.Goals as goal

pub invariant_of-result : goal.invariant_of-result
invariant_of-result c = subst (λ s. AreSimilar s c.in_ok-similar.similar) c.deref.ensures c.in_ok-similar.ensures
