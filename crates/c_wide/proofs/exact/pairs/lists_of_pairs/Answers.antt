use Rattle.std.proofs.Common.{ℕ, List, length, map, ap, sym, subst, ◌∙◌}
use Rattle.cost_lists.specs.Given.{rows_given, triples_of}
use Rattle.cost_lists.specs.ListedCosts.{ListedCosts}
use Rattle.cost_lists.proofs.GivenRows.{length-rows_given}
use Rattle.double_costs.specs.DoubleRows.{rows_of_doubles}
use Rattle.double_costs.specs.Margins.{AreRowsBeside}
use Rattle.wide_checker.specs.declared.numbers.Wide.{Wide}
use Rattle.wide_checker.specs.WideNumbers.{wide_value}
use Rattle.c_wide.specs.exact.Given.{IsScaled}
use Rattle.c_wide.proofs.PlacedPairs.{rows_in_units}
use Rattle.c_wide.proofs.exact.pairs.lists_of_pairs.Goals as goal

pub returns-clause-persons : goal.returns-clause-persons
returns-clause-persons c =
    let s = c.args.shape in
    let t = triples_of c.as_slice.result.now c.as_slice-2.result.now (map wide_value c.as_slice-3.result.now) in
    ap (λ (l : ListedCosts). length l.rows) c.sparse.ensures ∙ length-rows_given s.sense t s.m 1 s.n

pub returns-clause-rows : goal.returns-clause-rows
returns-clause-rows c = λ unit costs long has.
    let s = c.args.shape in
    let p = c.args.pairs.now in
    let a = c.as_slice.result.now in
    let b = c.as_slice-2.result.now in
    let d = rows_of_doubles s.m s.n costs in
    let r = rows_in_units unit s.n s.m costs p s.sense long has in
    let x = subst (λ (w : List Wide). AreRowsBeside (IsScaled unit) d
    (rows_given s.sense (triples_of p.persons.items p.objects.items (map wide_value w)) s.m 1 s.n))
    (sym c.as_slice-3.ensures.value) r in
    let y = subst (λ (o : List ℕ). AreRowsBeside (IsScaled unit) d
    (rows_given s.sense (triples_of p.persons.items o (map wide_value c.as_slice-3.result.now)) s.m 1 s.n))
    (sym c.as_slice-2.ensures.value) x in
    let z = subst (λ (o : List ℕ). AreRowsBeside (IsScaled unit) d
    (rows_given s.sense (triples_of o b (map wide_value c.as_slice-3.result.now)) s.m 1 s.n))
    (sym c.as_slice.ensures.value) y in
    subst (λ (l : ListedCosts). AreRowsBeside (IsScaled unit) d l.rows) (sym c.sparse.ensures) z
