use Rattle.c_wide.proofs.DenseUnits.{pairs_formed, wide_costs}
use Rattle.c_wide.proofs.exact.costs.unit_costs.Goals as goal

pub returns-then-are_finite-clause-form : goal.returns-then-are_finite-clause-form
returns-then-are_finite-clause-form c =
    let s = c.args.shape in
    wide_costs c.args.unit s.n s.m c.args.costs.now c.in_ok-all_in_units.field-0.items c.requires.long c.in_ok-all_in_units.ensures

pub returns-clause-form : goal.returns-clause-form
returns-clause-form c =
    let s = c.args.shape in
    pairs_formed c.args.unit s.n s.m c.args.costs.now c.in_ok-unit_pairs.field-0 c.in_ok-unit_pairs.ensures
