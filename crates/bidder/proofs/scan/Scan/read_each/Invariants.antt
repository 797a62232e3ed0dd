use Rattle.std.proofs.Common.{take}
use Rattle.assign_core.specs.Dense.{row_from}
use Rattle.bidder.specs.BestTwo.{IsBestTwo}
use Rattle.bidder.specs.inside.Limits.{IsLimit}
use Rattle.bidder.proofs.scan.Scan.read_each.Given as goal

abbrev pub invariant-loop-i : goal.invariant-loop-i
invariant-loop-i l = record {
  best : IsBestTwo (row_from 1 (take l.from l.benefits)) l.prices l.initial.scan.found → IsBestTwo (row_from 1 (take l.i l.benefits)) l.prices l.scan.found;
  limit : IsLimit l.scan.found.second l.scan.limit;
}
