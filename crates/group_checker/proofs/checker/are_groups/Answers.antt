use Rattle.plan_checker.proofs.Reading.{listed_long}
use Rattle.group_checker.proofs.checker.are_groups.Goals as goal

pub own_costs-requires : goal.own_costs-requires
own_costs-requires c = listed_long c.args.lists.now.rows c.args.objects.now c.requires.assigned.listed
