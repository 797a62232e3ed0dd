use Rattle.std.proofs.Common.{◌≡◌, ◌*◌, ◌-◌, ◌++◌, length, map}
use Rattle.assign_core.specs.Dense.{rows_cut}
use Rattle.assign_core.proofs.problem.cut_rows.Given as goal

-- the rows so far and those cut from the costs that are left are all rows
abbrev pub invariant-loop : goal.invariant-loop
invariant-loop l = record {
  whole : map (λ r. r.items) l.rows.items ++ rows_cut l.m (l.n - l.counter) l.left ≡ rows_cut l.m l.n l.fn.costs;
  long : length l.left ≡ (l.n - l.counter) * l.m;
}
