use Rattle.double_costs.proofs.PricedDuality.{best_priced}
use Rattle.double_costs.proofs.law.exact_prices_mean_best.Goals as goal

pub returns : goal.returns
returns c = best_priced
