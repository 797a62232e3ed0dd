use Rattle.std.proofs.Common.{refl, sym, subst, IsTrue, ◌∙◌}
use Rattle.std.specs.List.{All}
use Rattle.assign_core.specs.Rows.{IsCost}
use Rattle.cost_lists.specs.Exact.{AreFree}
use Rattle.cost_lists.specs.Own.{AreOwnCosts}
use Rattle.cost_lists.proofs.Owns.{own_range}
use Rattle.exact_checker.proofs.Better.{choices_from, values_are}
use Rattle.plan_repair.proofs.own_pairs.is_best.Goals as goal

pub are_values-requires-clause-costs : goal.are_values-requires-clause-costs
are_values-requires-clause-costs c =
    let l = c.args.lists.now in
    subst (All IsCost) (sym c.as_slice-own.ensures.value)
    (own_range l.sense l.rows c.args.objects.now c.in_ok-costs.costs.items c.in_ok-costs.ensures c.requires.listed c.persons-persons.ensures.rule.costs)

pub are_apart-requires-clause-costs : goal.are_apart-requires-clause-costs
are_apart-requires-clause-costs c =
    let l = c.args.lists.now in
    subst (All IsCost) (sym c.as_slice-own.ensures.value)
    (own_range l.sense l.rows c.args.objects.now c.in_ok-costs.costs.items c.in_ok-costs.ensures c.requires.listed c.persons-persons.ensures.rule.costs)

pub returns : goal.returns
returns c = λ e.
    let l = c.args.lists.now in
    let xs = c.args.objects.now in
    let prices = c.args.prices.now in
    let values = c.args.values.now in
    let own = c.as_slice-own.result.now in
    let are : AreOwnCosts l.sense l.rows xs own = subst (AreOwnCosts l.sense l.rows xs) (sym c.as_slice-own.ensures.value) c.in_ok-costs.ensures in
    let fit : IsTrue c.are_values.result = rw c.if-not-are_values.false refl in
    let long = are.long in
    let sums = values_are l xs prices own values are c.requires.listed (c.requires.values ∙ sym long) c.requires.persons (c.are_values.ensures fit) in
    record {
      assigned = record { listed = c.requires.listed; apart = c.in_ok-yes.ensures.apart e };
      priced = c.requires.objects;
      in_range = c.requires.in_range;
      choices = choices_from l xs prices values sums c.requires.persons c.requires.none_under;
      free = subst (λ m. AreFree m prices xs) c.objects-m.ensures.count (c.in_ok-yes.ensures.free e);
    }
