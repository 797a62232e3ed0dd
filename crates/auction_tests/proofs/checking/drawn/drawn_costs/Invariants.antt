use Rattle.std.specs.List.{All}
use Rattle.assign_core.specs.Rows.{IsCost}
use Rattle.auction_tests.proofs.checking.drawn.drawn_costs.Given as goal

abbrev pub invariant-loop-pair : goal.invariant-loop-pair
invariant-loop-pair l = All IsCost l.costs.items
