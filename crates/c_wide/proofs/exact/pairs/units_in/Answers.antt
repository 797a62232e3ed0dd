use Rattle.std.proofs.Common.{◌≡◌, ℕ, ℤ, pos, ◌-ℤ◌, ◌≤◌, ◌-◌, ◌*◌, ◌^◌, arith, SFits}
use Rattle.std.specs.Int.{w128}
use Rattle.std.proofs.lemmas.Int.{ints, to_z-of_z}
use Rattle.wide_checker.specs.WideNumbers.{IsInCosts}
use Rattle.c_wide.proofs.UnitLaws.{negative_in_units, own_above, positive_in_units, small_by, within_by_parts, zero_in_units}
use Rattle.c_wide.proofs.exact.pairs.units_in.Goals as goal

in_costs : (n : ℕ) (z : ℤ) → z ≡ pos n → n ≤ 2 ^ 100 → IsInCosts z
in_costs n z e h = record { least = omega (arith, ints); greatest = omega (arith, ints) }

below_costs : (n : ℕ) (z : ℤ) → z ≡ pos n → n ≤ 2 ^ 100 → IsInCosts (pos 0 -ℤ z)
below_costs n z e h = record { least = omega (arith, ints); greatest = omega (arith, ints) }

in_range : (n : ℕ) (z : ℤ) → z ≡ pos n → n ≤ 2 ^ 100 → SFits w128 z
in_range n z e h = omega (arith, ints)

below_range : (n : ℕ) (z : ℤ) → z ≡ pos n → n ≤ 2 ^ 100 → SFits w128 (pos 0 -ℤ z)
below_range n z e h = omega (arith, ints)

pub returns-then-parts-eq0-clause-units : goal.returns-then-parts-eq0-clause-units
returns-then-parts-eq0-clause-units c =
    zero_in_units c.args.unit c.args.cost c.parts_of-parts.result c.requires.finite c.parts_of-parts.ensures c.if-parts-eq0.true

pub overflow_sub-parts : goal.overflow_sub-parts
overflow_sub-parts c =
    own_above c.args.unit c.args.cost c.parts_of-parts.result c.parts_of-parts.ensures c.if-parts-eq0.false c.requires.multiple

pub shifted-size-requires-clause-by : goal.shifted-size-requires-clause-by
shifted-size-requires-clause-by c =
    let p = c.parts_of-parts.result in
    let are = c.parts_of-parts.ensures in
    let low = own_above c.args.unit c.args.cost p are c.if-parts-eq0.false c.requires.multiple in
    let zero = c.if-parts-eq0.false in
    small_by p.significand (p.exponent - c.args.unit) (omega arith) (within_by_parts c.args.unit c.args.cost p are low c.requires.within)

pub shifted-size-requires-clause-small : goal.shifted-size-requires-clause-small
shifted-size-requires-clause-small c =
    let p = c.parts_of-parts.result in
    let are = c.parts_of-parts.ensures in
    let low = own_above c.args.unit c.args.cost p are c.if-parts-eq0.false c.requires.multiple in
    within_by_parts c.args.unit c.args.cost p are low c.requires.within

pub returns-then-parts-clause-units : goal.returns-then-parts-clause-units
returns-then-parts-clause-units c =
    let p = c.parts_of-parts.result in
    let are = c.parts_of-parts.ensures in
    let z = c.shifted-size.result in
    let low = own_above c.args.unit c.args.cost p are c.if-parts-eq0.false c.requires.multiple in
    let small = within_by_parts c.args.unit c.args.cost p are low c.requires.within in
    let f : SFits w128 z = in_range (p.significand * 2 ^ (p.exponent - c.args.unit)) z c.shifted-size.ensures small in
    let g : SFits w128 (pos 0 -ℤ z) = below_range (p.significand * 2 ^ (p.exponent - c.args.unit)) z c.shifted-size.ensures small in
    simp to_z-of_z (negative_in_units c.args.unit c.args.cost p z c.requires.finite are low c.shifted-size.ensures c.if-parts.true)

pub returns-then-parts-clause-range : goal.returns-then-parts-clause-range
returns-then-parts-clause-range c =
    let p = c.parts_of-parts.result in
    let are = c.parts_of-parts.ensures in
    let z = c.shifted-size.result in
    let low = own_above c.args.unit c.args.cost p are c.if-parts-eq0.false c.requires.multiple in
    let small = within_by_parts c.args.unit c.args.cost p are low c.requires.within in
    let f : SFits w128 z = in_range (p.significand * 2 ^ (p.exponent - c.args.unit)) z c.shifted-size.ensures small in
    let g : SFits w128 (pos 0 -ℤ z) = below_range (p.significand * 2 ^ (p.exponent - c.args.unit)) z c.shifted-size.ensures small in
    simp to_z-of_z (below_costs (p.significand * 2 ^ (p.exponent - c.args.unit)) z c.shifted-size.ensures small)

pub returns-else-parts-clause-units : goal.returns-else-parts-clause-units
returns-else-parts-clause-units c =
    let p = c.parts_of-parts.result in
    let are = c.parts_of-parts.ensures in
    let z = c.shifted-size.result in
    let low = own_above c.args.unit c.args.cost p are c.if-parts-eq0.false c.requires.multiple in
    let small = within_by_parts c.args.unit c.args.cost p are low c.requires.within in
    let f : SFits w128 z = in_range (p.significand * 2 ^ (p.exponent - c.args.unit)) z c.shifted-size.ensures small in
    simp to_z-of_z (positive_in_units c.args.unit c.args.cost p z c.requires.finite are low c.shifted-size.ensures c.if-parts.false)

pub returns-else-parts-clause-range : goal.returns-else-parts-clause-range
returns-else-parts-clause-range c =
    let p = c.parts_of-parts.result in
    let are = c.parts_of-parts.ensures in
    let z = c.shifted-size.result in
    let low = own_above c.args.unit c.args.cost p are c.if-parts-eq0.false c.requires.multiple in
    let small = within_by_parts c.args.unit c.args.cost p are low c.requires.within in
    let f : SFits w128 z = in_range (p.significand * 2 ^ (p.exponent - c.args.unit)) z c.shifted-size.ensures small in
    simp to_z-of_z (in_costs (p.significand * 2 ^ (p.exponent - c.args.unit)) z c.shifted-size.ensures small)
