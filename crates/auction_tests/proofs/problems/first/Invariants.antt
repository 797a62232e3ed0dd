use Rattle.std.proofs.Common.{◌≡◌, map}
use Rattle.std.specs.List.{range_with_len}
use Rattle.auction_tests.proofs.problems.first.Given as goal

abbrev pub invariant-loop-i : goal.invariant-loop-i
invariant-loop-i g l = map g.T.Numbered.number_of l.numbers.items ≡ map (λ i. i) (range_with_len 1 l.i)
