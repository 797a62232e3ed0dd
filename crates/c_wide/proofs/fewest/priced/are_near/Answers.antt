use Rattle.std.proofs.Common.{pos, ◌+◌, ◌-ℤ◌, ◌*ℤ◌, ◌≤ℤ◌, get_or, arith, rules, below_more, SFits, w64}
use Rattle.std.specs.Int.{w128}
use Rattle.std.proofs.lemmas.Int.{ints, to_z-of_z}
use Rattle.c_wide.proofs.fewest.priced.are_near.Goals as goal

pub loop-j-preserved : goal.loop-j-preserved
loop-j-preserved c =
    let j = c.loop-j.j in
    let n = c.args.n in
    let by = c.args.by in
    let first = c.args.first.now in
    let prices = c.args.prices.now in
    let v : SFits w64 (get_or first j (pos 0)) = search rules in
    let l : SFits w128 (get_or prices j (pos 0)) = search rules in
    let t : SFits w128 c.scaled.result = search rules in
    let value = simp to_z-of_z at c.scaled.ensures.value in
    let test = simp to_z-of_z at c.if-scaled-from.false in
    let here : ((pos (n + 1) *ℤ get_or first j (pos 0)) -ℤ pos by) ≤ℤ get_or prices j (pos 0) = grind (arith, ints, test, value) in
    below_more (λ k. ((pos (n + 1) *ℤ get_or first k (pos 0)) -ℤ pos by) ≤ℤ get_or prices k (pos 0)) j c.loop-j.invariant here
