use Rattle.std.proofs.Common.{ℕ, pos}
use Rattle.assign_core.specs.Numbered.{IsNumber, numbered}
use Rattle.assign_core.specs.Rows.{row_of}
use Rattle.auction_command.specs.Findings.{HasCost}
use Rattle.auction_command.proofs.verify.first_other_cost.Given as goal

abbrev pub invariant-loop-i : goal.invariant-loop-i
invariant-loop-i l = (k : ℕ) → IsNumber l.i k → HasCost (row_of l.problem k) (numbered l.pairs k (0, pos 0))
