use Rattle.std.proofs.Common.{length}
use Rattle.exact_checker.proofs.RowSums.{NoneUnder}
use Rattle.plan_repair.proofs.FullRows.{AreCostsUpTo}
use Rattle.plan_repair.proofs.one_pass.first_beyond.Given as goal

-- the passed costs are in range, and no passed sum is below its value
abbrev pub invariant-loop-i : goal.invariant-loop-i
invariant-loop-i l = record {
  costs : AreCostsUpTo (length l.prices) l.costs l.i;
  sums : NoneUnder l.sense l.costs l.prices l.values l.i;
}
