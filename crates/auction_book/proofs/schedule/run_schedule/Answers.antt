use Rattle.std.proofs.Common.{sym, subst, ◌≤ℤ◌}
use Rattle.assign_core.specs.declared.numbers.TheConstants.{GREATEST_FIRST_PRICE}
use Rattle.scaled_values.specs.Scaled.{greatest_of}
use Rattle.auction_book.proofs.Opening.{zeros_low}
use Rattle.auction_book.proofs.schedule.run_schedule.Goals as goal

pub run_schedule_from-requires-clause-low : goal.run_schedule_from-requires-clause-low
run_schedule_from-requires-clause-low c = subst (λ p. greatest_of p ≤ℤ GREATEST_FIRST_PRICE) (sym c.in_ok-prices.ensures) (zeros_low c.n.result)
