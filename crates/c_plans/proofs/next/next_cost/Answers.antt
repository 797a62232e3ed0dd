use Rattle.std.proofs.Common.{rules, true, ◌≢◌}
use Rattle.assign_core.specs.Assignment.{IsAssignment}
use Rattle.plan_checker.specs.Ranks.{AreRanked}
use Rattle.c_plans.specs.NextAnswers.{CostsMore}
use Rattle.c_plans.proofs.next.next_cost.Goals as goal

pub returns : goal.returns
returns c =
    let l = c.args.lists.now in
    let xs = c.args.objects.now in
    let ys = c.args.other.now in
    let prices = c.args.prices.now in
    let ranks = c.args.shown.now.ranks.items in
    let others = c.args.shown.now.others.items in
    let count = c.args.shown.now.count in
    let margin = c.in-Some.cost.margin in
    let assigned : IsAssignment l.rows ys = search rules in
    let other : ys ≢ xs = search rules in
    let cost : CostsMore l xs ys c.in-Some.cost = search rules in
    let ranked : AreRanked true margin l xs prices ranks count others = search rules in
    record {
      all = cost.all;
      next = record {
        assigned = assigned;
        other = other;
        more = cost.more;
        least = c.ranks_mean_next.ensures margin l xs prices ranks count others c.persons-persons.ensures.rule c.requires ranked;
      };
    }
