use Rattle.std.proofs.Common.{◌++◌, drop, map, decimal}
use Rattle.report.specs.Words.{behind_spaces}
use Rattle.report.specs.Writing.{Sent}
use Rattle.report.proofs.put.put_numbers.Given as goal

abbrev pub invariant-loop-number : goal.invariant-loop-number
invariant-loop-number g l =
    Sent (g.W.Write.contents l.fn.w) (g.W.Write.contents l.w) (l.fn.pending ++ behind_spaces (map decimal (map g.N.Numbered.number_of l.fn.numbers)))
    (l.pending ++ behind_spaces (map decimal (map g.N.Numbered.number_of (drop l.number-index l.numbers))))
