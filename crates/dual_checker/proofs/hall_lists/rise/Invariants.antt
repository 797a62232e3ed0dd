use Rattle.std.proofs.Common.{map}
use Rattle.assign_core.proofs.NumbersOf.{RisesTo}
use Rattle.dual_checker.proofs.hall_lists.rise.Given as goal

-- the first i numbers rise
abbrev pub invariant-loop-i : goal.invariant-loop-i
invariant-loop-i g l = RisesTo (map g.T.Numbered.number_of l.all) l.i
