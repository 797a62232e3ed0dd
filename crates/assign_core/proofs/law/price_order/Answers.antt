use Rattle.assign_core.proofs.Matchings.{below_itself, below_through}
use Rattle.assign_core.proofs.law.price_order.Goals as goal

pub returns : goal.returns
returns c = record { itself = below_itself; through = below_through }
