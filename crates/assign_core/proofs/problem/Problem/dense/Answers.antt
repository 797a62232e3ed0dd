use Rattle.std.proofs.Common.{subst, sym}
use Rattle.assign_core.specs.Rows.{IsProblem}
use Rattle.assign_core.proofs.DenseRows.{IsProblem-dense}
use Rattle.assign_core.proofs.problem.Problem.dense.Goals as goal

pub invariant_of-result : goal.invariant_of-result
invariant_of-result c =
    subst IsProblem (sym c.in_ok-cut_rows.ensures) (IsProblem-dense c.args.n c.args.costs.now c.requires.size c.requires.count c.requires.costs)
