use Rattle.std.proofs.Common.{◌≢◌, ℕ, pos, ◌<◌, length, arith, rules, subst, below_more, SFits, w64}
use Rattle.std.proofs.lemmas.Int.{to_z-of_z}
use Rattle.std.proofs.lemmas.List.{get_or-set_other, get_or-set_same}
use Rattle.cost_lists.specs.Source.{part_of}
use Rattle.cost_lists.proofs.CutRows.{part_fits, part_long}
use Rattle.block_checker.specs.inside.Least.{IsLeastOfRow}
use Rattle.block_checker.proofs.least.set_of_rows.Goals as goal

pub loop-i-preserved : goal.loop-i-preserved
loop-i-preserved c =
    let i = c.loop-i.i in
    let m : ℕ = length c.args.prices.now in
    let costs = c.args.costs.now in
    let prices = c.args.prices.now in
    let result = c.least_of_row.result in
    let fits : SFits w64 result = search rules in
    let room : i < length c.loop-i.least = let long = c.loop-i.auto.least in omega arith in
    let whole = part_long m i costs (part_fits (length c.args.least.now) m i costs c.requires.costs.long c.loop-i-test.true) in
    let read : IsLeastOfRow c.args.sense (part_of m i costs) prices (length (part_of m i costs)) result =
    subst (λ row. IsLeastOfRow c.args.sense row prices (length row) result) c.part-row.ensures c.least_of_row.ensures in
    let here = subst (λ k. IsLeastOfRow c.args.sense (part_of m i costs) prices k result) whole read in
    simp to_z-of_z (below_more _ _
    (λ k h. let ne : k ≢ i = omega arith in rw (get_or-set_other c.loop-i.least i k result (pos 0) ne) (c.loop-i.invariant k h))
    (rw (get_or-set_same c.loop-i.least i result (pos 0) room) here))
