use Rattle.std.proofs.Common.{◌≡◌, List, ℤ, map, ◌≢◌, ℕ, pos, ◌+ℤ◌, ◌<◌, length, get_or, arith, rules, below_more, SFits}
use Rattle.std.specs.Int.{w128}
use Rattle.std.proofs.lemmas.Int.{ints, to_z-of_z}
use Rattle.std.proofs.lemmas.List.{length-map, get_or-set_other, get_or-set_same}
use Rattle.assign_core.specs.Prices.{price_of}
use Rattle.assign_core.proofs.NumberedLemmas.{numbered-index}
use Rattle.wide_checker.specs.WideNumbers.{wide_value}
use Rattle.wide_checker.proofs.values.add_prices.Goals as goal

pub loop-i-preserved : goal.loop-i-preserved
loop-i-preserved c =
    let i = c.loop-i.i in
    let own = c.loop-i.own in
    let prices : List ℤ = map wide_value c.args.prices.now in
    let same = length-map c.args.prices.now wide_value in
    let x : ℕ = get_or c.args.objects.now i 0 in
    let long = c.loop-i.auto.own in
    let room : i < length own = omega arith in
    let a : SFits w128 (get_or own i (pos 0)) = search rules in
    let b : SFits w128 c.price_at.result = search rules in
    let read = c.price_at.ensures.value in
    let r : SFits w128 c.plus.result = search rules in
    let sum = simp to_z-of_z at c.plus.ensures in
    let number = c.requires.within i 0 (omega arith) in
    let price = numbered-index prices x (pos 0) (pos 0) number.first (let last = number.last in omega arith) in
    let was = c.loop-i.invariant.left i (omega arith) in
    let value : c.plus.result ≡ get_or c.args.own.now i (pos 0) +ℤ price_of prices x = omega (arith, ints) in
    simp to_z-of_z (record {
      done = below_more _ _
          (λ k h. let ne : k ≢ i = omega arith in rw (get_or-set_other own i k c.plus.result (pos 0) ne) (c.loop-i.invariant.done k h))
          (rw (get_or-set_same own i c.plus.result (pos 0) room) value);
      left = λ k h. let ne : k ≢ i = omega arith in rw (get_or-set_other own i k c.plus.result (pos 0) ne) (c.loop-i.invariant.left k (omega arith));
    })

pub returns : goal.returns
returns c = λ k lt. c.loop-i.invariant.done k (let end = c.loop-i-test.false in let long = c.loop-i.auto.own in omega arith)
