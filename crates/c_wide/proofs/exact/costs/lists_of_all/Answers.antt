use Rattle.std.proofs.Common.{length, ap, ◌∙◌}
use Rattle.assign_core.proofs.DenseRows.{length-rows_cut}
use Rattle.cost_lists.specs.ListedCosts.{ListedCosts}
use Rattle.c_wide.proofs.exact.costs.lists_of_all.Goals as goal

pub returns-clause-persons : goal.returns-clause-persons
returns-clause-persons c = ap (λ (l : ListedCosts). length l.rows) c.dense.ensures ∙ length-rows_cut _ _ _
