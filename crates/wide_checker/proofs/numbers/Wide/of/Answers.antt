use Rattle.std.proofs.Common.{arith, rules, SFits, w64}
use Rattle.std.proofs.lemmas.Int.{ints, to_z-of_z}
use Rattle.wide_checker.specs.WideNumbers.{wide_value}
use Rattle.wide_checker.proofs.Words.{euclid_whole}
use Rattle.wide_checker.proofs.numbers.Wide.of.Goals as goal

pub returns : goal.returns
unfolding wide_value
returns c =
    let range = c.ranges.value in
    let fits : SFits w64 c.high_of.result = search rules in
    let high = simp to_z-of_z at c.high_of.ensures in
    let low = simp to_z-of_z at c.low_of.ensures in
    let whole = euclid_whole c.args.value in
    omega (arith, ints)
