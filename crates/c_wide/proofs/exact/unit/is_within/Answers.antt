use Rattle.c_wide.proofs.UnitLaws.{own_above, parts_within, within_by_parts}
use Rattle.c_wide.proofs.exact.unit.is_within.Goals as goal

pub overflow_sub-parts : goal.overflow_sub-parts
overflow_sub-parts c =
    own_above c.args.unit c.args.cost c.parts_of-parts.result c.parts_of-parts.ensures c.if-parts-eq0.false c.requires

pub returns : goal.returns
returns c =
    let are = c.parts_of-parts.ensures in
    let low = own_above c.args.unit c.args.cost c.parts_of-parts.result are c.if-parts-eq0.false c.requires in (
      (λ t. parts_within c.args.unit c.args.cost c.parts_of-parts.result are low (c.is_small.ensures.0 t)),
      (λ w. c.is_small.ensures.1 (within_by_parts c.args.unit c.args.cost c.parts_of-parts.result are low w)),
    )
