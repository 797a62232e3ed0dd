use Rattle.double_costs.proofs.DoublePairs.{length-rows_of_doubles, double_listed, doubles_within}
use Rattle.double_costs.proofs.law.double_pairs.Goals as goal

pub returns : goal.returns
returns c = record {
  persons = λ n m costs. length-rows_of_doubles m n costs;
  pairs = double_listed;
  within = λ n m costs. doubles_within m n costs;
}
