use Rattle.std.proofs.Common.{◌≤ℤ◌, sym, subst}
use Rattle.assign_core.specs.declared.numbers.TheConstants.{GREATEST_FIRST_PRICE}
use Rattle.scaled_values.specs.Scaled.{greatest_of}
use Rattle.auction_book.proofs.Opening.{zeros_low}
use Rattle.rounds.proofs.rounds.solve_rounds.Goals as goal

pub solve_rounds_from-requires-clause-low : goal.solve_rounds_from-requires-clause-low
solve_rounds_from-requires-clause-low g c = λ κs lives. subst (λ prices. greatest_of prices ≤ℤ GREATEST_FIRST_PRICE)
    (sym c.in_ok-zeros.ensures) (zeros_low c.n.result)
