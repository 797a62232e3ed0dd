use Rattle.std.proofs.Common.{take}
use Rattle.bidder.specs.inside.Near.{IsNear}
use Rattle.bidder.proofs.near.first_few.Given as goal

abbrev pub invariant-loop-i : goal.invariant-loop-i
invariant-loop-i l = IsNear (take l.i l.row) l.narrow l.near
