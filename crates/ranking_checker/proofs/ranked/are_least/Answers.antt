use Rattle.std.proofs.Common.{◌≡◌, ◌-◌, ◌-ℤ◌, ◌≤ℤ◌, arith, pos, length, get_or, rules, sym, subst, SFits, w64}
use Rattle.std.proofs.lemmas.Int.{ints, to_z-of_z}
use Rattle.std.proofs.lemmas.List.Elements.{All-from_recursion}
use Rattle.assign_core.specs.Numbered.{IsNumber}
use Rattle.assign_core.proofs.Listed.{objects_within}
use Rattle.cost_lists.specs.Own.{AreOwnCosts, minimised}
use Rattle.cost_lists.proofs.Owns.{own_range}
use Rattle.plan_checker.proofs.Reading.{listed_long}
use Rattle.ranking_checker.specs.inside.Parts.{AreLeast}
use Rattle.ranking_checker.proofs.PartLaws.{least_by_best, least_by_parts}
use Rattle.ranking_checker.proofs.ranked.are_least.Goals as goal

pub own_costs-requires : goal.own_costs-requires
own_costs-requires c = listed_long c.args.lists.now.rows c.args.objects.now c.requires.optimum.assigned.listed

pub core_of-requires-clause-base : goal.core_of-requires-clause-base
core_of-requires-clause-base c =
    let l = c.args.lists.now in
    let xs = c.args.objects.now in
    let own : AreOwnCosts l.sense l.rows xs c.as_slice.result.now = search rules in
    record {
      own_long = own.long;
      objects_long = listed_long l.rows xs c.requires.optimum.assigned.listed;
      prices_long = c.requires.optimum.priced;
      own_in = own_range l.sense l.rows xs c.as_slice.result.now own c.requires.optimum.assigned.listed c.persons-persons.ensures.rule.costs;
      objects_in = All-from_recursion (IsNumber l.m) xs (objects_within l.m l.rows xs c.persons-persons.ensures.rule.within c.requires.optimum.assigned.listed);
      prices_in = c.requires.optimum.in_range;
    }

pub returns-then-excess-le0 : goal.returns-then-excess-le0
returns-then-excess-le0 c = λ _.
    let l = c.args.lists.now in
    let totals = c.args.totals.now in
    let excess = c.in-Some.excess in
    let e : SFits w64 excess = search rules in
    let f : SFits w64 c.in_ok-first.first = search rules in
    let t : SFits w64 (get_or totals (length totals - 1) (pos 0)) = search rules in
    let is = simp to_z-of_z at c.in-Some.ensures in
    let turned = subst (λ s. excess ≡ minimised s (get_or totals (length totals - 1) (pos 0)) -ℤ minimised s c.in_ok-first.first) c.sense-sense.ensures is in
    let test = simp to_z-of_z at c.if-excess-le0.true in
    let low : excess ≤ℤ pos 0 = grind (arith, ints, test) in
    subst (λ b. AreLeast l.sense l.rows c.args.tree b) (sym c.if-not-is_all.true)
    (least_by_best l c.args.objects.now c.args.prices.now c.persons-persons.ensures.rule c.requires.optimum c.args.tree totals c.requires.tree c.requires.totals
    c.in_ok-first.first excess c.in_ok-first.ensures turned low)

pub returns : goal.returns
returns c = λ yes.
    let l = c.args.lists.now in
    let totals = c.args.totals.now in
    let excess = c.in-Some.excess in
    let bound = c.in-Some-bound_for.bound in
    let e : SFits w64 excess = search rules in
    let b : SFits w64 bound = search rules in
    let f : SFits w64 c.in_ok-first.first = search rules in
    let t : SFits w64 (get_or totals (length totals - 1) (pos 0)) = search rules in
    let is = simp to_z-of_z at c.in-Some.ensures in
    let turned = subst (λ s. excess ≡ minimised s (get_or totals (length totals - 1) (pos 0)) -ℤ minimised s c.in_ok-first.first) c.sense-sense.ensures is in
    let bound_is = simp to_z-of_z at c.in-Some-bound_for.ensures in
    let shown = simp to_z-of_z at c.in_ok-are_least.ensures in
    least_by_parts l c.args.objects.now c.args.prices.now c.persons-persons.ensures.rule c.requires.optimum c.args.tree totals c.requires.tree c.requires.totals
    c.in_ok-first.first excess c.in_ok-first.ensures turned c.requires.parts c.requires.rise c.args.is_all bound bound_is (shown yes)
