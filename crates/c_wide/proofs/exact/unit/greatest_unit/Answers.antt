use Rattle.c_wide.proofs.UnitLaws.{greatest_of_some, one_for_zeros}
use Rattle.c_wide.proofs.exact.unit.greatest_unit.Goals as goal

pub returns-then-unit-eq-NO_UNIT-clause-greatest : goal.returns-then-unit-eq-NO_UNIT-clause-greatest
returns-then-unit-eq-NO_UNIT-clause-greatest c =
    let u = c.common_unit-unit in
    one_for_zeros c.args.costs.now u.result c.if-unit-eq-NO_UNIT.true u.ensures.below u.ensures.above

pub returns-else-unit-eq-NO_UNIT-clause-greatest : goal.returns-else-unit-eq-NO_UNIT-clause-greatest
returns-else-unit-eq-NO_UNIT-clause-greatest c =
    let u = c.common_unit-unit in
    greatest_of_some c.args.costs.now u.result c.if-unit-eq-NO_UNIT.false u.ensures.below u.ensures.above
