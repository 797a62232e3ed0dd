use Rattle.std.proofs.Common.{ap}
use Rattle.c_calls.specs.doubles.Input.{InputDoubles}
use Rattle.c_wide.proofs.ExactEnds.{above_fault}
use Rattle.c_wide.proofs.exact.judge.judge_exact.Goals as goal

pub returns-in-Some-clause-fault : goal.returns-in-Some-clause-fault
returns-in-Some-clause-fault c =
    above_fault c.args.input.now c.input.inside.costs.now c.in_ok-shape.shape.sense c.greatest_unit-unit.result c.in-Some.place
    (ap (λ (i : InputDoubles). i.costs) c.input.view_is) c.in_ok-shape.ensures.whole c.greatest_unit-unit.ensures.greatest
    c.in-Some.ensures
