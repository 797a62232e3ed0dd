use Rattle.std.proofs.Common.{◌≡◌, length}
use Rattle.std.specs.List.{All}
use Rattle.assign_core.specs.Prices.{IsPrice}
use Rattle.auction_tests.proofs.bidding.table.Given as goal

abbrev pub invariant-loop-value : goal.invariant-loop-value
invariant-loop-value l = record { long : length l.prices.items ≡ l.value-index; each : All IsPrice l.prices.items }
