use Rattle.std.proofs.Common.{sym, subst}
use Rattle.assign_core.specs.Benefits.{IsBenefit}
use Rattle.std.specs.List.{All}
use Rattle.scaled_values.specs.Scaled.{IsBenefitRow}
use Rattle.bidder.proofs.Entries.{full_in_range}
use Rattle.bidder.proofs.offers.best_of.Goals as goal

pub best_two_full-requires-clause-benefits : goal.best_two_full-requires-clause-benefits
best_two_full-requires-clause-benefits c =
    full_in_range c.in-Full.benefits.now (subst (All (λ e. IsBenefit e.1)) (sym c.in-Full.ensures.entries) c.in-Full.ensures.rule.benefits)

pub best_two-requires : goal.best_two-requires
best_two-requires c =
    rw c.requires.table (subst (IsBenefitRow _) (sym c.in-Pairs.ensures.entries) c.in-Pairs.ensures.rule)
