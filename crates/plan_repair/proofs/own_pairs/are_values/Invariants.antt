use Rattle.std.proofs.Common.{◌≡◌, ℕ, pos, ◌+ℤ◌, ◌<◌, slice_index, slice_index_or}
use Rattle.assign_core.specs.Prices.{price_of}
use Rattle.plan_repair.proofs.own_pairs.are_values.Given as goal

-- each passed value is the sum
abbrev pub invariant-loop-i : goal.invariant-loop-i
invariant-loop-i l = (k : ℕ) → k < l.i → slice_index_or l.values k (pos 0) ≡ (slice_index_or l.own k (pos 0) +ℤ price_of l.prices (slice_index l.objects k))
