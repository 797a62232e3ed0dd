use Rattle.std.proofs.Common.{ℕ, ℤ, List, pos, ◌<◌, ◌≤◌, ◌*◌, ◌≤ℤ◌, length, get_or, arith, refl, rules, subst, SFits, w64, IsTrue}
use Rattle.std.specs.List.{All}
use Rattle.std.proofs.Math.Nat.{mul-le-mul_right}
use Rattle.std.proofs.lemmas.Int.{to_z-of_z}
use Rattle.assign_core.specs.Rows.{IsCost}
use Rattle.cost_lists.specs.Source.{part_of}
use Rattle.cost_lists.proofs.CutRows.{part_fits, part_long}
use Rattle.exact_checker.specs.inside.Sums.{sum_at}
use Rattle.exact_checker.proofs.RowSums.{none_more, none_under}
use Rattle.plan_repair.proofs.FullRows.{costs_more}
use Rattle.plan_repair.proofs.one_pass.first_beyond.Goals as goal

pub loop-i-preserved : goal.loop-i-preserved
loop-i-preserved c =
    let i = c.loop-i.i in
    let costs = c.args.costs.now in
    let prices = c.args.prices.now in
    let values = c.args.values.now in
    let v : SFits w64 (get_or values i (pos 0)) = search rules in
    let yes : IsTrue c.all_hold.result = rw c.if-not-all_hold.false refl in
    let sums = simp to_z-of_z at (c.all_hold.ensures.sums yes) in
    let whole = part_long (length prices) i costs (part_fits (length values) (length prices) i costs c.requires.long c.loop-i-test.true) in
    let P : List ℤ → Type 0 = λ r. (j : ℕ) → j < length r → get_or values i (pos 0) ≤ℤ sum_at c.args.sense r prices j in
    let h : P (part_of (length prices) i costs) = subst P c.part.ensures sums in
    record {
      costs = costs_more (length prices) i costs c.loop-i.invariant.costs whole (subst (All IsCost) c.part.ensures (c.all_hold.ensures.costs yes));
      sums = none_more c.args.sense costs prices values i c.loop-i.invariant.sums (λ j room. h j (omega arith));
    }

pub returns : goal.returns
returns c =
    let values = c.args.values.now in
    let prices = c.args.prices.now in
    let end : length values ≤ c.loop-i.i = c.loop-i-test.false in
    let most : length values * length prices ≤ c.loop-i.i * length prices = mul-le-mul_right (length prices) end in
    let long = c.requires.long in
    let costs : All IsCost c.args.costs.now = λ k d lt. c.loop-i.invariant.costs k d (omega arith) in
    (costs, none_under c.args.sense c.args.costs.now prices values long c.loop-i.i c.loop-i.invariant.sums end)
