use Rattle.std.proofs.Common.{ℕ, pos, length, map}
use Rattle.assign_core.specs.Numbered.{IsNumber}
use Rattle.assign_core.specs.Rows.{row_of}
use Rattle.assign_core.specs.Benefits.{benefit_row}
use Rattle.assign_core.specs.Slackness.{HasSlack}
use Rattle.dual_checker.specs.Faults.{own_object}
use Rattle.dual_checker.proofs.slack.first_short.Given as goal

abbrev pub invariant-loop-i : goal.invariant-loop-i
invariant-loop-i l =
    (k : ℕ) → IsNumber l.i k → HasSlack (pos 1) l.prices (row_of (map (benefit_row l.sense (length l.problem)) l.problem) k) (own_object l.objects k)
