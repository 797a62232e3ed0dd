use Rattle.std.proofs.Common.{◌≡◌, ◌≤◌, ◌*◌, ◌^◌, take}
use Rattle.count_checker.specs.CountSets.{marked_sum}
use Rattle.count_checker.proofs.shortage.sum_marked.Given as goal

abbrev pub invariant-loop-k : goal.invariant-loop-k
invariant-loop-k l = record {
  so_far : l.sum ≡ marked_sum (take l.k l.marks) (take l.k l.numbers);
  small : l.sum ≤ l.k * 2 ^ 32;
}
