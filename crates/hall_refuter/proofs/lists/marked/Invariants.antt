use Rattle.std.proofs.Common.{◌≡◌, ◌+◌, ◌++◌, drop, map}
use Rattle.hall_refuter.specs.inside.Found.{marked_from}
use Rattle.hall_refuter.proofs.lists.marked.Given as goal

-- the numbers so far and those to come are all that are marked
abbrev pub invariant-loop-i : goal.invariant-loop-i
invariant-loop-i g l = map g.T.Numbered.number_of l.all.items ++ marked_from (l.i + 1) (drop l.i l.marks) ≡ marked_from 1 l.marks
