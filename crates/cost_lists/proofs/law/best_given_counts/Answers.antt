use Rattle.cost_lists.proofs.BestGiven.{best_given_is}
use Rattle.cost_lists.proofs.law.best_given_counts.Goals as goal

pub returns : goal.returns
returns c = best_given_is
