use Rattle.c_wide.specs.fewest.Priced.{AreLevels}
use Rattle.c_wide.proofs.fewest.priced.own_levels.Given as goal

abbrev pub invariant-loop-i : goal.invariant-loop-i
invariant-loop-i l = AreLevels l.priced l.objects l.i l.levels.items
