use Rattle.std.proofs.Common.{pos, get_or, rules, SFits, w64}
use Rattle.std.proofs.lemmas.Int.{to_z-of_z}
use Rattle.block_checker.proofs.LeastSums.{row_more}
use Rattle.block_checker.proofs.least.least_of_row.Goals as goal

pub loop-j-preserved : goal.loop-j-preserved
loop-j-preserved c =
    let k = c.loop-j.j in
    let a : SFits w64 (get_or c.args.costs.now k (pos 0)) = search rules in
    let b : SFits w64 (get_or c.args.prices.now k (pos 0)) = search rules in
    let s : SFits w64 c.sum_of.result = search rules in
    let r : SFits w64 c.min-least.result = search rules in
    let sum = simp to_z-of_z at c.sum_of.ensures in
    let value = simp to_z-of_z at c.min-least.ensures.value in
    simp to_z-of_z (row_more c.args.sense c.args.costs.now c.args.prices.now k _ c.sum_of.result
    c.min-least.result c.loop-j.invariant sum value)
