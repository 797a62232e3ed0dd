use Rattle.assign_core.proofs.LeastCosts.{least_is_given, none_is_given, none_is_less}
use Rattle.assign_core.proofs.law.least_given_counts.Goals as goal

pub returns : goal.returns
returns c = record { given = least_is_given; least = none_is_less; none = none_is_given }
