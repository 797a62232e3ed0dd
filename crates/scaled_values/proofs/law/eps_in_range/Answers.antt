use Rattle.scaled_values.proofs.EpsList.{range_of_eps}
use Rattle.scaled_values.proofs.law.eps_in_range.Goals as goal

pub returns : goal.returns
returns c = λ s eps h. let r = range_of_eps s eps h in (r.least, r.greatest)
