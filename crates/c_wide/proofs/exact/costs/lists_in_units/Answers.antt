use Rattle.std.proofs.Common.{List, sym, subst}
use Rattle.assign_core.specs.Rows.{Listing}
use Rattle.double_costs.specs.DoubleRows.{rows_of_doubles}
use Rattle.double_costs.specs.Margins.{AreRowsBeside}
use Rattle.wide_checker.specs.declared.numbers.Wide.{Wide}
use Rattle.c_wide.specs.exact.Costs.{AreInUnits, HasCosts}
use Rattle.c_wide.specs.exact.Given.{IsScaled}
use Rattle.c_wide.proofs.DenseUnits.{cut_in_units}
use Rattle.c_wide.proofs.exact.costs.lists_in_units.Goals as goal

pub returns-in-Dense-clause-rows : goal.returns-in-Dense-clause-rows
returns-in-Dense-clause-rows c = λ unit given long has.
    let s = c.args.shape in
    let units = c.as_slice.result.now in
    let own = subst (HasCosts unit s.n s.m given) c.in-Dense.is has in
    subst (λ (l : List Listing). AreRowsBeside (IsScaled unit) (rows_of_doubles s.m s.n given) l) (sym c.lists_of_all.ensures.rows)
    (cut_in_units unit s.n s.m given units (subst (λ (l : List Wide). AreInUnits unit given l) (sym c.as_slice.ensures.value) own))
