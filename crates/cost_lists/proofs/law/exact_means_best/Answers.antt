use Rattle.cost_lists.proofs.ExactDuality.{best_exact}
use Rattle.cost_lists.proofs.law.exact_means_best.Goals as goal

pub returns : goal.returns
returns c = best_exact
