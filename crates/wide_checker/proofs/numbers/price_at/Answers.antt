use Rattle.std.proofs.Common.{◌<◌, length, map, arith, rules, sym, subst, SFits}
use Rattle.std.specs.Int.{w128}
use Rattle.std.proofs.lemmas.Int.{to_z-of_z}
use Rattle.std.proofs.lemmas.List.{length-map}
use Rattle.wide_checker.specs.WideNumbers.{IsInPrices, wide_value}
use Rattle.wide_checker.proofs.numbers.price_at.Goals as goal

pub returns-clause-range : goal.returns-clause-range
returns-clause-range c =
    let fits : SFits w128 c.value_at.result = search rules in
    let long = length-map c.args.prices.now wide_value in
    let room : c.args.place < length (map wide_value c.args.prices.now) = let lt = c.requires.place in omega arith in
    simp to_z-of_z (subst IsInPrices (sym c.value_at.ensures) (c.requires.prices c.args.place _ room))
