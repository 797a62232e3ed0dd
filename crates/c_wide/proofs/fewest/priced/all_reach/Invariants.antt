use Rattle.std.proofs.Common.{ℕ, ◌<◌, get_or}
use Rattle.c_wide.specs.declared.fewest.tight.Tight.{Tight}
use Rattle.c_wide.specs.fewest.Priced.{HasLevel}
use Rattle.c_wide.proofs.fewest.priced.all_reach.Given as goal

abbrev pub invariant-loop-k : goal.invariant-loop-k
invariant-loop-k l = (q : ℕ) (d : Tight) → q < l.k → HasLevel l.priced l.levels (get_or l.tight q d)
