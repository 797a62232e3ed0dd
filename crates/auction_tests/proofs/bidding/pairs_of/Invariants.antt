use Rattle.std.proofs.Common.{◌≡◌, ◌+◌, ◌++◌, drop}
use Rattle.assign_core.specs.Dense.{row_from}
use Rattle.auction_tests.proofs.bidding.pairs_of.Given as goal

-- the row so far and the entries to come are the whole row
abbrev pub invariant-loop-i : goal.invariant-loop-i
invariant-loop-i l = l.row.items ++ row_from (l.i + 1) (drop l.i l.benefits) ≡ row_from 1 l.benefits
