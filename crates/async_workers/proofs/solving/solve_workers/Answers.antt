use Rattle.std.proofs.Common.{◌≤ℤ◌, sym, subst}
use Rattle.assign_core.specs.declared.numbers.TheConstants.{GREATEST_FIRST_PRICE}
use Rattle.scaled_values.specs.Scaled.{greatest_of}
use Rattle.auction_book.proofs.Opening.{zeros_low}
use Rattle.async_workers.proofs.solving.solve_workers.Goals as goal

pub solve_workers_from-requires-clause-low : goal.solve_workers_from-requires-clause-low
solve_workers_from-requires-clause-low g c κs within = subst (λ prices. greatest_of prices ≤ℤ GREATEST_FIRST_PRICE)
    (sym c.in_ok-zeros.ensures) (zeros_low c.n.result)
