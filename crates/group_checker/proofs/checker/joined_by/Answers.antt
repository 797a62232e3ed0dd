use Rattle.std.proofs.Common.{◌∙◌, ap, length, sym, subst}
use Rattle.std.specs.List.{All}
use Rattle.std.proofs.lemmas.List.{length-replicate}
use Rattle.std.proofs.lemmas.List.Elements.{All-from_recursion}
use Rattle.assign_core.specs.Numbered.{IsNumber}
use Rattle.assign_core.proofs.Listed.{objects_within}
use Rattle.cost_lists.proofs.Owns.{own_range}
use Rattle.dual_checker.proofs.HallMarking.{just_added}
use Rattle.plan_checker.proofs.Reading.{listed_long}
use Rattle.group_checker.proofs.checker.joined_by.Goals as goal

pub mark_numbers-requires : goal.mark_numbers-requires
mark_numbers-requires c =
    let l = c.args.lists.now in
    let xs = c.args.objects.now in
    let long = ap length c.requires.owned ∙ length-replicate l.m _ in
    subst (λ k. All (IsNumber k) xs) (sym long) (All-from_recursion (IsNumber l.m) xs
    (objects_within l.m l.rows xs c.persons-persons.ensures.rule.within c.requires.optimum.assigned.listed))

pub are_joined-requires-clause-plan : goal.are_joined-requires-clause-plan
are_joined-requires-clause-plan c =
    let l = c.args.lists.now in
    let xs = c.args.objects.now in
    let rule = c.persons-persons.ensures.rule in
    record {
      plan = record {
        own_long = c.requires.own.long;
        objects_long = listed_long l.rows xs c.requires.optimum.assigned.listed;
        prices_long = c.requires.optimum.priced;
        owned_long = c.mark_numbers.auto.marks ∙ ap length c.requires.owned ∙ length-replicate l.m _;
        groups_long = c.requires.groups;
        own_in = own_range l.sense l.rows xs c.args.own.now c.requires.own c.requires.optimum.assigned.listed rule.costs;
        objects_in = All-from_recursion (IsNumber l.m) xs (objects_within l.m l.rows xs rule.within c.requires.optimum.assigned.listed);
        prices_in = c.requires.optimum.in_range;
      };
      few = rule.objects;
      sense = c.sense.ensures;
      own = c.requires.own;
      optimum = c.requires.optimum;
      marks = just_added l.m c.args.owned.now c.mark_numbers.new.marks _ c.requires.owned c.mark_numbers.ensures;
    }
