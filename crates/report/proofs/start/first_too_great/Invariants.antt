use Rattle.std.proofs.Common.{take}
use Rattle.std.specs.List.{All}
use Rattle.report.specs.Starts.{IsFirstPrice}
use Rattle.report.proofs.start.first_too_great.Given as goal

abbrev pub invariant-loop-i : goal.invariant-loop-i
invariant-loop-i l = All IsFirstPrice (take l.i l.prices)
