use Rattle.std.proofs.Common.{rules}
use Rattle.cost_lists.specs.Exact.{IsOptimum}
use Rattle.plan_checker.proofs.Reading.{listed_long}
use Rattle.c_plans.proofs.ranked.ranked_after.Goals as goal

pub find_ranking-requires : goal.find_ranking-requires
find_ranking-requires c =
    let o : IsOptimum c.args.lists.now c.args.objects.now c.args.prices.now = search rules in
    listed_long c.args.lists.now.rows c.args.objects.now o.assigned.listed
