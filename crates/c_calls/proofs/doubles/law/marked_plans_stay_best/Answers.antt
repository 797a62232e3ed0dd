use Rattle.std.proofs.Common.{refl}
use Rattle.double_costs.specs.Units.{units_of}
use Rattle.double_costs.proofs.Nearest.{best_rounded}
use Rattle.double_checker.specs.Verdicts.{price_units}
use Rattle.c_calls.proofs.doubles.law.marked_plans_stay_best.Goals as goal

pub returns : goal.returns
returns c = λ g sense objects prices scale others p beside.
    let m = p.margin refl in
    best_rounded sense g.n g.m scale (units_of m.margin) g.costs others objects (price_units prices) m.worse.enough
    p.proof m.worse.worse beside
