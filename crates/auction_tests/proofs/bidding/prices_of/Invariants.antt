use Rattle.std.proofs.Common.{◌≡◌, length}
use Rattle.std.specs.List.{All}
use Rattle.assign_core.specs.Prices.{IsPrice}
use Rattle.auction_tests.proofs.bidding.prices_of.Given as goal

abbrev pub invariant-loop-i : goal.invariant-loop-i
invariant-loop-i l = record { long : length l.prices.items ≡ l.i; each : All IsPrice l.prices.items }
