use Rattle.std.proofs.Common.{inr, arith}
use Rattle.c_wide.proofs.UnitLaws.{own_above, own_below}
use Rattle.c_wide.proofs.exact.unit.own_unit.Goals as goal

pub returns-else-parts-eq0-clause-below : goal.returns-else-parts-eq0-clause-below
returns-else-parts-eq0-clause-below c = λ d h. own_below d c.args.cost c.parts_of-parts.result c.parts_of-parts.ensures h

pub returns-else-parts-eq0-clause-above : goal.returns-else-parts-eq0-clause-above
returns-else-parts-eq0-clause-above c =
    let near = c.parts_of-parts.ensures.near in
    inr (omega arith, λ d m. own_above d c.args.cost c.parts_of-parts.result c.parts_of-parts.ensures c.if-parts-eq0.false m)
