use Rattle.std.proofs.Common.{◌≡◌, ℤ, List, length, map, ap, sym, subst, ◌∙◌}
use Rattle.std.specs.List.{All}
use Rattle.std.proofs.lemmas.List.{length-map, length-replicate}
use Rattle.std.proofs.lemmas.List.Elements.{All-from_recursion}
use Rattle.assign_core.specs.Numbered.{IsNumber}
use Rattle.assign_core.proofs.Listed.{objects_within}
use Rattle.dual_checker.specs.Faults.{IsFirst}
use Rattle.cost_lists.specs.Exact.{AreFree}
use Rattle.wide_checker.specs.WideNumbers.{wide_value}
use Rattle.wide_checker.proofs.WideOwns.{wide_range}
use Rattle.exact_checker.specs.Faults.{IsPricedUnowned}
use Rattle.exact_checker.proofs.Better.{better_first, choices_from, short_first, values_are}
use Rattle.wide_checker.proofs.checker.first_fault.Goals as goal

pub returns-in-Some : goal.returns-in-Some
returns-in-Some c =
    let l = c.args.lists.now in
    (c.requires.long, c.in-Some.ensures l c.args.objects.now c.persons-persons.ensures.rule c.requires.long.objects c.requires.own)

pub first_given_twice-requires-clause-within : goal.first_given_twice-requires-clause-within
first_given_twice-requires-clause-within c =
    let l = c.args.lists.now in
    let xs = c.args.objects.now in
    let listed = c.in_default.ensures l xs c.persons-persons.ensures.rule c.requires.long.objects c.requires.own in
    let long = ap length c.requires.counts ∙ length-replicate l.m 0 in
    subst (λ k. All (IsNumber k) xs) (sym long) (All-from_recursion (IsNumber l.m) xs
    (objects_within l.m l.rows xs c.persons-persons.ensures.rule.within listed))

pub add_prices-requires-clause-costs : goal.add_prices-requires-clause-costs
add_prices-requires-clause-costs c =
    let l = c.args.lists.now in
    let xs = c.args.objects.now in
    let listed = c.in_default.ensures l xs c.persons-persons.ensures.rule c.requires.long.objects c.requires.own in
    wide_range l.sense l.rows xs c.args.own.now c.requires.own listed c.persons-persons.ensures.rule.costs

pub add_prices-requires-clause-within : goal.add_prices-requires-clause-within
add_prices-requires-clause-within c =
    let l = c.args.lists.now in
    let xs = c.args.objects.now in
    let listed = c.in_default.ensures l xs c.persons-persons.ensures.rule c.requires.long.objects c.requires.own in
    subst (λ k. All (IsNumber k) xs) (sym c.requires.long.prices_too ∙ length-map c.args.prices.now wide_value) (All-from_recursion (IsNumber l.m) xs
    (objects_within l.m l.rows xs c.persons-persons.ensures.rule.within listed))

pub returns-in-Some-first_under_value : goal.returns-in-Some-first_under_value
returns-in-Some-first_under_value c =
    let l = c.args.lists.now in
    let xs = c.args.objects.now in
    let prices : List ℤ = map wide_value c.args.prices.now in
    let same : length prices ≡ length c.args.prices.now = length-map c.args.prices.now wide_value in
    let listed = c.in_default.ensures l xs c.persons-persons.ensures.rule c.requires.long.objects c.requires.own in
    let values = values_are l xs prices c.args.own.now c.add_prices.new.own c.requires.own listed
    c.add_prices.auto.own c.requires.long.objects c.add_prices.ensures in
    let found = c.in-Some-first_under_value.ensures in (
      record {
        long = c.requires.long;
        assigned = record {
          listed = listed;
          apart =
              c.in_default-first_given_twice.ensures.first;
        };
        in_range = c.in_default-first_out_of_range.ensures;
      },
      short_first l xs prices c.add_prices.new.own values c.in-Some-first_under_value.person found.0,
      better_first l xs prices c.add_prices.new.own values c.in-Some-first_under_value.person c.in-Some-first_under_value.object found.1,
    )

pub returns-in-Some-first_priced_unowned : goal.returns-in-Some-first_priced_unowned
returns-in-Some-first_priced_unowned c =
    let l = c.args.lists.now in
    let xs = c.args.objects.now in
    let prices : List ℤ = map wide_value c.args.prices.now in
    let same : length prices ≡ length c.args.prices.now = length-map c.args.prices.now wide_value in
    let listed = c.in_default.ensures l xs c.persons-persons.ensures.rule c.requires.long.objects c.requires.own in
    let values = values_are l xs prices c.args.own.now c.add_prices.new.own c.requires.own listed
    c.add_prices.auto.own c.requires.long.objects c.add_prices.ensures in
    let found = c.in-Some-first_priced_unowned.ensures xs c.in_default-first_given_twice.ensures.counts in (
      record {
        long = c.requires.long;
        assigned = record {
          listed = listed;
          apart =
              c.in_default-first_given_twice.ensures.first;
        };
        in_range = c.in_default-first_out_of_range.ensures;
      },
      choices_from l xs prices c.add_prices.new.own values c.requires.long.objects c.in_default-first_under_value.ensures,
      subst (λ m. IsFirst (IsPricedUnowned xs prices) m c.in-Some-first_priced_unowned.object) (sym same ∙ c.requires.long.prices_too) found,
    )

pub returns : goal.returns
returns c =
    let l = c.args.lists.now in
    let xs = c.args.objects.now in
    let prices : List ℤ = map wide_value c.args.prices.now in
    let same : length prices ≡ length c.args.prices.now = length-map c.args.prices.now wide_value in
    let listed = c.in_default.ensures l xs c.persons-persons.ensures.rule c.requires.long.objects c.requires.own in
    let values = values_are l xs prices c.args.own.now c.add_prices.new.own c.requires.own listed
    c.add_prices.auto.own c.requires.long.objects c.add_prices.ensures in
    let free = c.in_default-first_priced_unowned.ensures xs c.in_default-first_given_twice.ensures.counts in
    record {
      assigned = record { listed = listed; apart = c.in_default-first_given_twice.ensures.first };
      priced = c.requires.long.prices_too;
      in_range = c.in_default-first_out_of_range.ensures;
      choices = choices_from l xs prices c.add_prices.new.own values c.requires.long.objects c.in_default-first_under_value.ensures;
      free = subst (λ m. AreFree m prices xs) (sym same ∙ c.requires.long.prices_too) free;
    }
