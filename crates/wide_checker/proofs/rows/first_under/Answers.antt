use Rattle.std.proofs.Common.{ℕ, ℤ, List, pos, ◌+ℤ◌, ◌≤ℤ◌, map, get_or, arith, rules, refl, ap, below_more, SFits}
use Rattle.std.specs.Int.{w128}
use Rattle.std.proofs.lemmas.Int.{ints, to_z-of_z}
use Rattle.cost_lists.specs.Own.{minimised}
use Rattle.exact_checker.specs.inside.Sums.{sum_at}
use Rattle.wide_checker.specs.WideNumbers.{wide_value}
use Rattle.wide_checker.proofs.rows.first_under.Goals as goal

pub loop-j-preserved : goal.loop-j-preserved
loop-j-preserved c =
    let costs : List ℤ = map wide_value c.args.costs.now in
    let prices : List ℤ = map wide_value c.args.prices.now in
    let j : ℕ = c.loop-j.j in
    let range = c.ranges.value in
    let a : SFits w128 c.cost_at.result = search rules in
    let b : SFits w128 c.price_at.result = search rules in
    let says = simp to_z-of_z at c.reaches.ensures in
    let over = says.0 (rw c.if-not-reaches.false refl) in
    let cost = ap (minimised c.args.sense) c.cost_at.ensures.value in
    let price = c.price_at.ensures.value in
    let P : ℕ → Type 0 = λ k. c.args.value ≤ℤ sum_at c.args.sense costs prices k in
    let here : c.args.value ≤ℤ (minimised c.args.sense (get_or costs j (pos 0)) +ℤ get_or prices j (pos 0)) = omega (arith, ints) in
    simp to_z-of_z (below_more P j (simp to_z-of_z at c.loop-j.invariant) here)
