use Rattle.std.proofs.Common.{◌↔◌, ℕ, List, IsTrue, map, ap, subst, ◌∙◌}
use Rattle.std.proofs.lemmas.Result.{IfOk-weaker}
use Rattle.assign_core.specs.Assignment.{IsAssignment}
use Rattle.assign_core.specs.Dense.{rows_cut}
use Rattle.assign_core.specs.Hall.{IsHallSet}
use Rattle.assign_core.proofs.HallSets.{no_assignment}
use Rattle.cost_lists.specs.Given.{rows_given}
use Rattle.wide_checker.specs.WideNumbers.{wide_value}
use Rattle.wide_checker.specs.WideSources.{triples_in}
use Rattle.wide_checker.proofs.hall.leaves_no_plan.Goals as goal

pub returns-in-Dense-clause-none : goal.returns-in-Dense-clause-none
returns-in-Dense-clause-none c =
    let l = c.args.lists.now in
    let costs = map wide_value c.in-Dense.costs.now in
    let persons = c.args.persons.now in
    let objects = c.args.objects.now in
    let rows =
    ap (λ m. rows_cut m c.persons-n.result costs) c.objects-m.ensures.count
    ∙ ap (λ n. rows_cut l.m n costs) c.persons-n.ensures.count
    ∙ c.in-Dense.ensures.rows in
    IfOk-weaker c.is_hall_of_rows.result
    (λ b. IsTrue b ↔ IsHallSet (rows_cut c.objects-m.result c.persons-n.result costs) persons objects)
    (λ b. IsTrue b → (xs : List ℕ) → IsAssignment l.rows xs → ⊥)
    (λ b h t xs. no_assignment l.rows persons objects xs (subst (λ r. IsHallSet r persons objects) rows (h.0 t)))
    c.is_hall_of_rows.ensures

pub returns-in-Listed-clause-none : goal.returns-in-Listed-clause-none
returns-in-Listed-clause-none c =
    let l = c.args.lists.now in
    let triples = triples_in c.in-Listed.pairs in
    let persons = c.args.persons.now in
    let objects = c.args.objects.now in
    let rows =
    ap (λ m. rows_given l.sense triples m 1 c.persons-n.result) c.objects-m.ensures.count
    ∙ ap (λ n. rows_given l.sense triples l.m 1 n) c.persons-n.ensures.count
    ∙ c.in-Listed.ensures.rows in
    IfOk-weaker c.is_hall_of_pairs.result
    (λ b. IsTrue b ↔ IsHallSet (rows_given l.sense triples c.objects-m.result 1 c.persons-n.result) persons objects)
    (λ b. IsTrue b → (xs : List ℕ) → IsAssignment l.rows xs → ⊥)
    (λ b h t xs. no_assignment l.rows persons objects xs (subst (λ r. IsHallSet r persons objects) rows (h.0 t)))
    (c.is_hall_of_pairs.ensures l.sense)
