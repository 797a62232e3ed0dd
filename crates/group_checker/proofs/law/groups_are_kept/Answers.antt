use Rattle.group_checker.proofs.Kept.{groups_keep}
use Rattle.group_checker.proofs.law.groups_are_kept.Goals as goal

pub returns : goal.returns
returns c = groups_keep
