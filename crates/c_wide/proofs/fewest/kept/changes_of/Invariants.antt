use Rattle.std.proofs.Common.{◌≡◌, ◌+◌, ◌≤◌, drop}
use Rattle.c_wide.specs.fewest.Changes.{changes}
use Rattle.c_wide.proofs.fewest.kept.changes_of.Given as goal

abbrev pub invariant-loop-i : goal.invariant-loop-i
invariant-loop-i l = record {
  left : l.count + changes (drop l.i l.kept) (drop l.i l.objects) ≡ changes l.kept l.objects;
  few : l.count ≤ l.i;
}
