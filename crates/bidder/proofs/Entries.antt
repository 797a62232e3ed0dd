-- How low a phase's floor can be, and the benefits of a full row.
use Rattle.std.proofs.Common.{ℤ, pos, ◌+ℤ◌, ◌≤ℤ◌, ◌-◌, List, length, arith}
use Rattle.std.specs.List.{All}
use Rattle.std.proofs.lemmas.Int.{ints}
use Rattle.assign_core.specs.declared.numbers.TheConstants.{MOST_PERSONS}
use Rattle.assign_core.specs.Rows.{IsProblem}
use Rattle.assign_core.specs.Dense.{row_from}
use Rattle.assign_core.specs.Benefits.{IsBenefit}
use Rattle.assign_core.proofs.DenseRows.{length-row_from, row_from-index}
use Rattle.assign_core.proofs.Products.{steps_below}
use Rattle.scaled_values.specs.Scaled.{ScaledProblem, spread}
use Rattle.scaled_values.specs.Limits.{most_step, least_floor}
use Rattle.scaled_values.proofs.BenefitRange.{IsBenefit-least, IsSpread-spread}
use Rattle.scaled_values.proofs.EpsList.{IsStep-spread}
use Rattle.bidder.specs.declared.offers.Ask.{Ask}
use Rattle.bidder.specs.Offers.{IsAsk}

-- the benefits of a full row
pub full_in_range : (benefits : List ℤ) → All (λ e. IsBenefit e.1) (row_from 1 benefits) → All IsBenefit benefits
full_in_range benefits h = λ k z lt.
    let long = length-row_from 1 benefits in
    let at = row_from-index 1 k benefits (0, pos 0) z lt in
    rw at at (h k (0, pos 0) (omega arith))

-- no floor is below the least
pub floor_least : (s : ScaledProblem) (ask : Ask) → IsProblem s.problem → IsAsk s ask → least_floor ≤ℤ ask.floor
floor_least s ask h is =
    let low = (IsBenefit-least s h).least in
    let step = IsStep-spread s ask.eps (IsSpread-spread s h) is.slackness in
    let few = h.size.few in
    let steps = steps_below (length s.problem - 1) MOST_PERSONS (spread s +ℤ ask.eps) most_step (omega arith) step.least step.greatest in
    let start = is.price.below in
    let floor = is.floor in
    omega (arith, ints)
