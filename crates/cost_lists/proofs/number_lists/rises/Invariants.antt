use Rattle.assign_core.proofs.NumbersOf.{RisesTo}
use Rattle.cost_lists.proofs.number_lists.rises.Given as goal

-- the first i numbers rise
abbrev pub invariant-loop-i : goal.invariant-loop-i
invariant-loop-i l = RisesTo l.numbers l.i
