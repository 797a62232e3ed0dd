use Rattle.std.proofs.Common.{◌≡◌, ◌+◌, ◌-◌, length}
use Rattle.hungarian.specs.inside.Stored.{IsPlanned, IsAssignedTo}
use Rattle.hungarian.proofs.solver.solve.Given as goal

-- the persons before this one are assigned
abbrev pub invariant-loop-person : goal.invariant-loop-person
invariant-loop-person l = record {
  row_long : length l.row.items ≡ l.lists.m + 1;
  planned : IsPlanned l.lists l.plan;
  assigned : IsAssignedTo (l.person - 1) l.plan.objects.items;
}
