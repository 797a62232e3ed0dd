use Rattle.std.proofs.Common.{◌≡◌, ◌*◌, length, rules}
use Rattle.std.specs.List.{All}
use Rattle.std.proofs.lemmas.List.Elements.{All-from_recursion}
use Rattle.assign_core.specs.Numbered.{IsNumber}
use Rattle.assign_core.proofs.Listed.{objects_within}
use Rattle.cost_lists.specs.Exact.{IsPriceInLimits}
use Rattle.cost_lists.specs.Own.{AreOwnCosts}
use Rattle.cost_lists.proofs.Owns.{own_range}
use Rattle.plan_checker.proofs.Reading.{listed_long}
use Rattle.plan_checker.proofs.ranked.are_ranked.Goals as goal

pub own_costs-requires : goal.own_costs-requires
own_costs-requires c = listed_long c.args.lists.now.rows c.args.objects.now c.requires.assigned.listed

pub ranked_by-requires-clause-plan : goal.ranked_by-requires-clause-plan
ranked_by-requires-clause-plan c =
    let l = c.args.lists.now in
    let xs = c.args.objects.now in
    let own : AreOwnCosts l.sense l.rows xs c.as_slice.result.now = search rules in
    let ranks : length c.args.ranks.now ≡ l.m = search rules in
    let others : length c.args.others.now ≡ c.args.count * l.m = search rules in
    let limits : All IsPriceInLimits c.args.others.now = search rules in
    record {
      own_long = own.long;
      objects_long = listed_long l.rows xs c.requires.assigned.listed;
      prices_long = c.requires.priced;
      ranks_long = ranks;
      own_in = own_range l.sense l.rows xs c.as_slice.result.now own c.requires.assigned.listed c.persons-persons.ensures.rule.costs;
      objects_in = All-from_recursion (IsNumber l.m) xs (objects_within l.m l.rows xs c.persons-persons.ensures.rule.within c.requires.assigned.listed);
      prices_in = c.requires.in_range;
      others_long = others;
      others_in = limits;
    }
