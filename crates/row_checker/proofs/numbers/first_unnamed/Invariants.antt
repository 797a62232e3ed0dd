use Rattle.std.proofs.Common.{◌≡◌, ◌+◌, ◌*◌, ◌-◌}
use Rattle.row_checker.specs.Trees.{first_unnamed}
use Rattle.row_checker.proofs.numbers.first_unnamed.Given as goal

-- the pairs so far name what is there
abbrev pub invariant-loop-i : goal.invariant-loop-i
invariant-loop-i l = first_unnamed l.numbers (l.from + 2 * l.i) (l.pairs - l.i) l.limit ≡ first_unnamed l.numbers l.from l.pairs l.limit
