use Rattle.std.proofs.Common.{pos, ◌-◌, ◌<ℤ◌, get_or, arith, rules, ap, SFits, w64}
use Rattle.std.proofs.lemmas.Int.{ints, to_z-of_z}
use Rattle.assign_core.proofs.NumberedLemmas.{numbered-index}
use Rattle.cost_lists.specs.Own.{minimised}
use Rattle.block_checker.proofs.better.better_pair.Goals as goal

pub returns-then-sum-numbers : goal.returns-then-sum-numbers
returns-then-sum-numbers c =
    let pair = c.in_ok-pair.pair in
    let read = c.in_ok-pair.ensures in
    let prices = c.args.prices.now in
    let numbers = c.args.numbers.now in
    let cost : SFits w64 pair.cost = search rules in
    let price : SFits w64 (get_or prices (pair.object - 1) (pos 0)) = search rules in
    let number : SFits w64 (get_or numbers (pair.person - 1) (pos 0)) = search rules in
    let fits : SFits w64 c.sum_of-sum.result = search rules in
    let sum = simp to_z-of_z at c.sum_of-sum.ensures in
    let test = simp to_z-of_z at c.if-sum-numbers.true in
    let less : c.sum_of-sum.result <ℤ get_or numbers (pair.person - 1) (pos 0) = grind (arith, ints, test) in
    let turned = ap (λ s. minimised s pair.cost) c.sense.ensures in
    let person = read.person in
    let object = read.object in
    let some = person.first in
    let last = person.last in
    let first = object.first in
    let end = object.last in
    let long = c.requires.persons in
    let wide = c.requires.objects in
    let at = numbered-index prices pair.object (pos 0) (pos 0) first (omega arith) in
    let value = numbered-index numbers pair.person (pos 0) (pos 0) some (omega arith) in
    record { given = read.given; under = omega (arith, ints) }
