use Rattle.std.proofs.Common.{arith, rules, sym, ◌∙◌, SFits, w64}
use mathlib.Core.Bool.{true≢false}
use Rattle.std.proofs.lemmas.Bool.{not-true}
use Rattle.std.proofs.lemmas.Int.{ints, to_z-of_z}
use Rattle.std.proofs.Common.{◌<ℤ◌, ◌+ℤ◌}
use Rattle.plan_checker.proofs.rows.reaches.Goals as goal

pub returns : goal.returns
returns c = λ yes.
    let f = c.ranges.cost in
    let g = c.ranges.price in
    let o = c.ranges.sum in
    let b = c.ranges.bound in
    let s : SFits w64 c.sum_of.result = search rules in
    let sum = simp to_z-of_z at c.sum_of.ensures in
    let below = simp to_z-of_z at c.is_below.ensures in
    let no = not-true c.is_below.result yes in
    let not : ¬ (c.sum_of.result <ℤ (c.args.sum +ℤ c.args.bound)) = λ low. true≢false (sym (below.1 low) ∙ no) in
    grind (arith, ints)
