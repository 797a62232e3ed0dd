use Rattle.std.proofs.Common.{◌≡◌, length}
use Rattle.std.specs.List.{All}
use Rattle.assign_core.specs.Benefits.{IsBenefit}
use Rattle.auction_tests.proofs.bidding.benefits_of.Given as goal

abbrev pub invariant-loop-i : goal.invariant-loop-i
invariant-loop-i l = record { long : length l.benefits.items ≡ l.i; each : All IsBenefit l.benefits.items }
