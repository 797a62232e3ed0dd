use Rattle.std.proofs.Common.{◌≡◌, ℕ, ℤ, List, length, map, arith, ap, sym, subst}
use Rattle.std.proofs.lemmas.List.{length-map}
use Rattle.assign_core.specs.declared.sense.Sense.TheVariants.{Min}
use Rattle.assign_core.specs.Hall.{IsHallSet}
use Rattle.cost_lists.specs.Given.{triples_of}
use Rattle.cost_lists.proofs.GivenRows.{pairs_listed}
use Rattle.cost_lists.proofs.SameHall.{ListGiven, hall_given}
use Rattle.cost_lists.proofs.Triples.{triple_numbers}
use Rattle.wide_checker.specs.WideNumbers.{wide_value}
use Rattle.wide_checker.specs.WideSources.{triples_in}
use Rattle.wide_checker.proofs.Limits.{wide_among}
use Rattle.wide_checker.proofs.hall.is_hall_of_pairs.Goals as goal

pub returns : goal.returns
returns c = λ sense.
    let n : ℕ = c.args.n in
    let m : ℕ = c.args.m in
    let p = c.args.pairs in
    let are = c.requires.pairs in
    let persons = c.args.persons.now in
    let objects = c.args.objects.now in
    let costs : List ℤ = map wide_value p.costs.now in
    let zeros : List ℤ = c.as_slice.result.now in
    let same = length-map p.costs.now wide_value in
    let value = ap length c.as_slice.ensures.value in
    let count = c.in_ok-zeros.ensures.len in
    let e : length zeros ≡ length p.persons.now = let long = are.costs_long in omega arith in
    let f : length costs ≡ length p.persons.now = let long = are.costs_long in omega arith in
    let here : ListGiven Min (triples_of p.persons.now p.objects.now zeros) n m =
    pairs_listed Min (triples_of p.persons.now p.objects.now zeros) n m
    (triple_numbers p.persons.now p.objects.now zeros are.objects_long e n m are.persons_in are.objects_in) in
    let there : ListGiven sense (triples_of p.persons.now p.objects.now costs) n m =
    pairs_listed sense (triples_in p) n m (wide_among n m p are) in
    let rows = ap (λ l. l.rows) c.sparse-lists.ensures in
    let yes = c.in_ok-check_hall.ensures.yes in
    let says = c.is_yes.ensures in (
      (λ t. hall_given Min sense p.persons.now p.objects.now zeros costs n m persons objects e f here there
          (subst (λ r. IsHallSet r persons objects) rows (yes.0 (says.0 t)))),
      (λ h. says.1 (yes.1 (subst (λ r. IsHallSet r persons objects) (sym rows)
          (hall_given sense Min p.persons.now p.objects.now costs zeros n m persons objects f e there here h)))),
    )
