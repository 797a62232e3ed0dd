use Rattle.c_wide.specs.fewest.Combined.{AreCombined}
use Rattle.c_wide.proofs.fewest.combine.combined_costs.Given as goal

abbrev pub invariant-loop-place : goal.invariant-loop-place
invariant-loop-place l = AreCombined l.shape.sense l.input l.kept l.place l.costs.items
