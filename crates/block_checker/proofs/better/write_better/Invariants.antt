use Rattle.block_checker.specs.Pairs.{AreWritten}
use Rattle.block_checker.proofs.better.write_better.Given as goal

abbrev pub invariant-loop-one : goal.invariant-loop-one
invariant-loop-one l =
    AreWritten l.lists l.prices l.numbers l.count (record { persons = l.initial.persons; objects = l.initial.objects; costs = l.initial.costs })
    (record { persons = l.persons; objects = l.objects; costs = l.costs })
