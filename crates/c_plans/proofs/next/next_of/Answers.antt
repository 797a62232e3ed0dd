use Rattle.plan_checker.proofs.Reading.{listed_long}
use Rattle.c_plans.proofs.next.next_of.Goals as goal

pub find_other-requires : goal.find_other-requires
find_other-requires c = listed_long c.args.lists.now.rows c.args.objects.now c.requires.assigned.listed
