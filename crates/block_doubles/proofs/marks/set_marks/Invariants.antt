use Rattle.std.proofs.Common.{ℕ, ◌<◌, length, get_or}
use Rattle.double_checker.specs.inside.Pairs.{row_part}
use Rattle.block_doubles.specs.inside.Places.{IsMarkAt, number_at}
use Rattle.block_doubles.proofs.marks.set_marks.Given as goal

abbrev pub invariant-loop-i : goal.invariant-loop-i
invariant-loop-i l =
    (q : ℕ) → q < l.i → IsMarkAt l.sense (number_at l.sense l.number_costs l.number_prices q)
    (row_part (length l.prices) q l.costs) l.prices (get_or l.objects q 0) (get_or l.marks q 0)
