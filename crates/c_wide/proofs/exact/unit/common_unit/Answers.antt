use Rattle.c_wide.proofs.UnitLaws.{IsUnitOfFirst, greatest_of_all, no_unit_yet, unit_of_all, unit_of_more}
use Rattle.std.proofs.Common.{◌+◌, arith, subst, sym}
use Rattle.c_wide.proofs.exact.unit.common_unit.Goals as goal

pub loop-k-init : goal.loop-k-init
loop-k-init c = no_unit_yet c.args.costs.now

pub loop-k-preserved : goal.loop-k-preserved
loop-k-preserved c =
    let o = c.own_unit.ensures in
    subst (IsUnitOfFirst c.args.costs.now (c.loop-k.k + 1)) (sym c.min-unit.ensures)
    (unit_of_more c.args.costs.now c.loop-k.k c.loop-k.unit c.own_unit.result c.loop-k.invariant o.below o.above o.most)

pub returns-clause-below : goal.returns-clause-below
returns-clause-below c =
    let end = c.loop-k-test.false in
    unit_of_all c.args.costs.now c.loop-k.k c.loop-k.unit (omega arith) c.loop-k.invariant

pub returns-clause-above : goal.returns-clause-above
returns-clause-above c =
    let end = c.loop-k-test.false in
    let most = c.loop-k.auto.k-end in
    greatest_of_all c.args.costs.now c.loop-k.k c.loop-k.unit (omega arith) c.loop-k.invariant (omega arith)

pub returns-clause-most : goal.returns-clause-most
returns-clause-most c = c.loop-k.invariant.most
