use Rattle.std.proofs.Common.{◌≡◌, map, ℕ, pos, ◌+ℤ◌, ◌<◌, ◌≤◌, slice_index, slice_index_or}
use Rattle.assign_core.specs.Prices.{price_of}
use Rattle.wide_checker.specs.WideNumbers.{wide_value}
use Rattle.wide_checker.proofs.values.add_prices.Given as goal

-- the price is added to each passed cost, and the others are as they were
abbrev pub invariant-loop-i : goal.invariant-loop-i
invariant-loop-i l = record {
  done : (k : ℕ) → k < l.i → slice_index_or l.own k (pos 0) ≡ (slice_index_or l.initial.own k (pos 0) +ℤ price_of (map wide_value l.prices) (slice_index l.objects k));
  left : (k : ℕ) → l.i ≤ k → slice_index_or l.own k (pos 0) ≡ slice_index_or l.initial.own k (pos 0);
}
