use Rattle.std.proofs.Common.{◌≡◌}
use Rattle.row_checker.specs.Trees.{multiples_at}
use Rattle.row_checker.proofs.numbers.multiples_at.Given as goal

abbrev pub invariant-loop-i : goal.invariant-loop-i
invariant-loop-i l = l.multiples.items ≡ multiples_at l.numbers l.from l.i
