use Rattle.std.proofs.Common.{◌≡◌, ◌-◌, ◌<◌}
use Rattle.ranking_checker.specs.inside.Trees.{leaf_upto}
use Rattle.ranking_checker.proofs.tree.part_of_objects.Given as goal

abbrev pub invariant-loop-u : goal.invariant-loop-u
invariant-loop-u l = record {
  leaf : l.part ≡ leaf_upto l.tree l.objects (l.u - 1);
  below : l.part < l.tree.count;
}
