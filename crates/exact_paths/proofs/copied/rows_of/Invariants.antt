use Rattle.std.proofs.Common.{◌≡◌, map, take}
use Rattle.exact_paths.proofs.copied.rows_of.Given as goal

abbrev pub invariant-loop-i : goal.invariant-loop-i
invariant-loop-i l = map (λ r. r.items) l.rows.items ≡ take l.i l.problem
