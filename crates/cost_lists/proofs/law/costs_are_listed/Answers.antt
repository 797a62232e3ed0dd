use Rattle.cost_lists.proofs.CutRows.{cut_listed}
use Rattle.cost_lists.proofs.GivenRows.{rows_list}
use Rattle.cost_lists.proofs.law.costs_are_listed.Goals as goal

pub returns-clause-dense : goal.returns-clause-dense
returns-clause-dense c = λ n m costs i j long h k. cut_listed n m i j costs long h k

pub returns-clause-sparse : goal.returns-clause-sparse
returns-clause-sparse c = λ sense triples n m i j among. rows_list sense triples n m among i j
