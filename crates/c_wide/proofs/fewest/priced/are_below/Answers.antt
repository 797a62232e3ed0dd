use Rattle.std.proofs.Common.{pos, ◌+◌, ◌+ℤ◌, ◌-ℤ◌, ◌*ℤ◌, ◌≤ℤ◌, get_or, arith, rules, below_more, SFits, w64}
use Rattle.std.specs.Int.{w128}
use Rattle.std.proofs.lemmas.Int.{ints, to_z-of_z}
use Rattle.c_wide.proofs.fewest.priced.are_below.Goals as goal

pub loop-i-preserved : goal.loop-i-preserved
loop-i-preserved c =
    let i = c.loop-i.i in
    let n = c.args.n in
    let by = c.args.by in
    let values = c.args.values.now in
    let levels = c.args.levels.now in
    let v : SFits w64 (get_or values i (pos 0)) = search rules in
    let l : SFits w128 (get_or levels i (pos 0)) = search rules in
    let t : SFits w128 c.above.result = search rules in
    let value = simp to_z-of_z at c.above.ensures.value in
    let test = simp to_z-of_z at c.if-levels-i.false in
    let here : get_or levels i (pos 0) ≤ℤ ((pos (n + 1) *ℤ (get_or values i (pos 0) +ℤ pos 1)) -ℤ pos by) = grind (arith, ints, test, value) in
    below_more (λ k. get_or levels k (pos 0) ≤ℤ ((pos (n + 1) *ℤ (get_or values k (pos 0) +ℤ pos 1)) -ℤ pos by)) i c.loop-i.invariant here
