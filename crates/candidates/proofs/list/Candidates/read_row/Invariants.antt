use Rattle.std.proofs.Common.{take}
use Rattle.candidates.specs.inside.Reading.{IsReading}
use Rattle.candidates.proofs.list.Candidates.read_row.Given as goal

abbrev pub invariant-loop-i : goal.invariant-loop-i
invariant-loop-i l = IsReading (take l.i l.row) l.narrow l.self l.reading.limit
