use Rattle.std.proofs.Common.{List, ◌+◌, take, sym, subst}
use lib.Ieee.{nan}
use Rattle.wide_checker.specs.declared.numbers.Wide.{Wide}
use Rattle.c_wide.specs.exact.Costs.{AreInUnits}
use Rattle.c_wide.proofs.DenseUnits.{one_more_unit}
use Rattle.c_wide.proofs.exact.costs.all_in_units.Goals as goal

pub loop-k-preserved : goal.loop-k-preserved
loop-k-preserved c =
    let costs = c.args.costs.now in
    let k = c.loop-k.k in
    subst (λ (l : List Wide). AreInUnits c.args.unit (take (k + 1) costs) l) (sym c.in_ok-push.ensures.items)
    (one_more_unit c.args.unit costs c.loop-k.units.items k nan c.wide_in.result c.loop-k-test.true c.loop-k.invariant
    (record { units = c.wide_in.ensures.units; range = c.wide_in.ensures.range }))
