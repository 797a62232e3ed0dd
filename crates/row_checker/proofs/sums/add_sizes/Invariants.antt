use Rattle.std.proofs.Common.{◌≡◌, ◌+◌, ◌-◌, ◌^◌, ◌<◌, min, drop}
use Rattle.row_checker.specs.Leaves.{terms_size}
use Rattle.row_checker.proofs.sums.add_sizes.Given as goal

-- the sum so far with what is left, as far as they fit
abbrev pub invariant-loop-term : goal.invariant-loop-term
invariant-loop-term l =
    (min (l.so_far + terms_size l.times (drop l.term-index l.terms)) (2 ^ 128 - 1) ≡ min
    (l.sum + terms_size l.times l.terms) (2 ^ 128 - 1)) × (l.so_far < 2 ^ 128)
