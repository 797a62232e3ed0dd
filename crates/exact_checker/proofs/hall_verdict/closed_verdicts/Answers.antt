use Rattle.std.proofs.Common.{ℕ, List}
use Rattle.std.specs.List.{Contains}
use Rattle.dual_checker.specs.HallVerdicts.{HasNeighbours}
use Rattle.cost_lists.specs.ListedCosts.{ListedCosts}
use Rattle.exact_checker.specs.declared.hall_verdict.HallVerdict.{HallVerdict}
use Rattle.exact_checker.specs.declared.hall_verdict.HallVerdict.TheVariants.{Range, Order, Missing, Extra, Count, Yes}
use Rattle.exact_checker.specs.HallVerdicts.{IsClosed, IsHallVerdict}
use Rattle.exact_checker.proofs.hall_verdict.closed_verdicts.Goals as goal

shown : (l : ListedCosts) (persons objects : List ℕ) (v : HallVerdict) → IsClosed v → IsHallVerdict l persons objects v → HasNeighbours l.rows persons (Contains objects)
shown l persons objects (Extra j) closed is = is.1
shown l persons objects Count closed is = λ j. (is.1 j).1
shown l persons objects Yes closed is = λ j. (is.neighbours j).1
shown l persons objects Range closed is = absurd closed
shown l persons objects Order closed is = absurd closed
shown l persons objects (Missing i j) closed is = absurd closed

pub returns : goal.returns
returns c = shown
