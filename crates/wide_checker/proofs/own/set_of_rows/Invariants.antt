use Rattle.std.proofs.Common.{◌≡◌, ℕ, pos, ◌+◌, ◌<◌, length, map, slice_index, slice_index_or}
use Rattle.assign_core.specs.Dense.{rows_cut}
use Rattle.assign_core.specs.Rows.{listed_in, row_of}
use Rattle.wide_checker.specs.WideNumbers.{wide_value}
use Rattle.wide_checker.specs.inside.Own.{turned_or_marked}
use Rattle.wide_checker.proofs.own.set_of_rows.Given as goal

abbrev pub invariant-loop-i : goal.invariant-loop-i
invariant-loop-i l =
    (k : ℕ) → k < l.i → slice_index_or l.own k (pos 0) ≡ turned_or_marked l.sense
    (listed_in (row_of (rows_cut l.m (length l.initial.own) (map wide_value l.costs)) (k + 1)) (slice_index l.objects k))
