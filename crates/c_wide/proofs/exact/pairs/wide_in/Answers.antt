use Rattle.std.proofs.Common.{arith, subst, sym, SFits}
use Rattle.std.specs.Int.{w128}
use Rattle.std.proofs.lemmas.Int.{ints, to_z-of_z}
use Rattle.wide_checker.specs.WideNumbers.{IsInCosts}
use Rattle.c_wide.specs.exact.Units.{IsInUnits}
use Rattle.c_wide.proofs.exact.pairs.wide_in.Goals as goal

pub returns-clause-units : goal.returns-clause-units
returns-clause-units c =
    let r = c.units_in.ensures.range in
    let f : SFits w128 c.units_in.result = omega (arith, ints, r.least, r.greatest) in
    let e = simp to_z-of_z at c.of.ensures in
    subst (IsInUnits c.args.unit c.args.cost) (sym e) c.units_in.ensures.units

pub returns-clause-range : goal.returns-clause-range
returns-clause-range c =
    let r = c.units_in.ensures.range in
    let f : SFits w128 c.units_in.result = omega (arith, ints, r.least, r.greatest) in
    let e = simp to_z-of_z at c.of.ensures in
    subst IsInCosts (sym e) r
