use Rattle.std.proofs.Common.{pos, ◌+ℤ◌, ◌*ℤ◌, arith, rules, SFits}
use mir.Syntax.{w128}
use Rattle.std.proofs.lemmas.Int.{ints, to_z-of_z}
use Rattle.dual_checker.proofs.RoundedSums.{scaled_price, whole_range}
use Rattle.dual_checker.proofs.sums.as_price.Goals as goal

pub overflow_mul-result : goal.overflow_mul-result
overflow_mul-result c =
    let few = c.requires.size.few in
    let number = c.from.ensures in
    let fits = c.ranges.rounded in
    let same = scaled_price c.args.n c.args.rounded c.from.result c.from-2.result number (simp to_z-of_z at c.from-2.ensures) in
    let whole = whole_range c.args.n c.args.rounded few c.requires.rounded in
    let a : SFits w128 c.from.result = search rules in
    let b : SFits w128 (c.from.result +ℤ pos 1) = omega (arith, ints) in
    let d : SFits w128 c.from-2.result = search rules in
    let e : SFits w128 ((c.from.result +ℤ pos 1) *ℤ c.from-2.result) = omega (arith, ints) in
    simp to_z-of_z e

pub returns-clause-value : goal.returns-clause-value
returns-clause-value c =
    let few = c.requires.size.few in
    let number = c.from.ensures in
    let fits = c.ranges.rounded in
    let same = scaled_price c.args.n c.args.rounded c.from.result c.from-2.result number (simp to_z-of_z at c.from-2.ensures) in
    let whole = whole_range c.args.n c.args.rounded few c.requires.rounded in
    let a : SFits w128 c.from.result = search rules in
    let b : SFits w128 (c.from.result +ℤ pos 1) = omega (arith, ints) in
    let d : SFits w128 c.from-2.result = search rules in
    let e : SFits w128 ((c.from.result +ℤ pos 1) *ℤ c.from-2.result) = omega (arith, ints) in
    simp to_z-of_z same

pub returns-clause-greatest : goal.returns-clause-greatest
returns-clause-greatest c =
    let few = c.requires.size.few in
    let number = c.from.ensures in
    let fits = c.ranges.rounded in
    let same = scaled_price c.args.n c.args.rounded c.from.result c.from-2.result number (simp to_z-of_z at c.from-2.ensures) in
    let whole = whole_range c.args.n c.args.rounded few c.requires.rounded in
    let a : SFits w128 c.from.result = search rules in
    let b : SFits w128 (c.from.result +ℤ pos 1) = omega (arith, ints) in
    let d : SFits w128 c.from-2.result = search rules in
    let e : SFits w128 ((c.from.result +ℤ pos 1) *ℤ c.from-2.result) = omega (arith, ints) in
    simp to_z-of_z (omega (arith, ints))
