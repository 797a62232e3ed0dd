use Rattle.std.proofs.Common.{◌≡◌, ◌++◌, drop}
use Rattle.row_checker.specs.Leaves.{variables}
use Rattle.row_checker.proofs.sums.touch.Given as goal

-- the variables so far and those that are left
abbrev pub invariant-loop-term : goal.invariant-loop-term
invariant-loop-term l = l.touched.items ++ variables (drop l.term-index l.terms) ≡ l.initial.touched.items ++ variables l.terms
