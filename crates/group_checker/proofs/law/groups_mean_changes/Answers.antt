use Rattle.group_checker.proofs.Changes.{groups_change}
use Rattle.group_checker.proofs.law.groups_mean_changes.Goals as goal

pub returns : goal.returns
returns c = groups_change
