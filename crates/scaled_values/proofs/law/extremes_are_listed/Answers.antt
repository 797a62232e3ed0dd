use Rattle.scaled_values.proofs.BenefitRange.{least_is, greatest_is}
use Rattle.scaled_values.proofs.law.extremes_are_listed.Goals as goal

pub returns : goal.returns
returns c = λ xs. (least_is xs, greatest_is xs)
