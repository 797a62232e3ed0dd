use Rattle.std.proofs.Common.{◌≡◌, ℕ, ℤ, List, length, map, arith, ap, sym, subst}
use Rattle.std.proofs.lemmas.List.{length-map}
use Rattle.assign_core.specs.Hall.{IsHallSet}
use Rattle.cost_lists.proofs.SameHall.{hall_cut}
use Rattle.wide_checker.specs.WideNumbers.{wide_value}
use Rattle.wide_checker.proofs.hall.is_hall_of_rows.Goals as goal

pub returns : goal.returns
returns c =
    let n : ℕ = c.args.n in
    let m : ℕ = c.args.m in
    let persons = c.args.persons.now in
    let objects = c.args.objects.now in
    let costs : List ℤ = map wide_value c.args.costs.now in
    let zeros : List ℤ = c.as_slice.result.now in
    let same = length-map c.args.costs.now wide_value in
    let value = ap length c.as_slice.ensures.value in
    let count = c.in_ok-zeros.ensures.len in
    let e : length zeros ≡ length costs = omega arith in
    let rows = ap (λ l. l.rows) c.dense-lists.ensures in
    let yes = c.in_ok-check_hall.ensures.yes in
    let says = c.is_yes.ensures in (
      (λ t. hall_cut m n zeros costs persons objects e (subst (λ r. IsHallSet r persons objects) rows (yes.0 (says.0 t)))),
      (λ h. says.1 (yes.1 (subst (λ r. IsHallSet r persons objects) (sym rows) (hall_cut m n costs zeros persons objects (sym e) h)))),
    )
