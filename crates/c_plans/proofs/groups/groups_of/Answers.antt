use Rattle.plan_checker.proofs.Reading.{listed_long}
use Rattle.c_plans.proofs.groups.groups_of.Goals as goal

pub find_groups-requires : goal.find_groups-requires
find_groups-requires c = listed_long c.args.lists.now.rows c.args.objects.now c.requires.assigned.listed
