use Rattle.std.proofs.Common.{◌+ℤ◌, FitsSigned, arith, SFits, w64, rules, to_z}
use Rattle.std.proofs.lemmas.Int.{ints, to_z-of_z}
use Rattle.assign_core.proofs.Listed.{length_zip}
use Rattle.auction_command.specs.Findings.{HasCost, objects_of}
use Rattle.auction_command.proofs.Costs.{cost_at, total_more, total_past}
use Rattle.auction_command.proofs.verify.sum_of.Goals as goal

pub overflow_add-sum : goal.overflow_add-sum
overflow_add-sum c =
    let long = length_zip HasCost c.args.problem.now c.args.pairs.now c.requires in
    let few = c.n-persons.ensures.problem.size.few in
    let cost = cost_at c.args.problem.now c.args.pairs.now c.loop-cost.cost-index c.loop-cost-item.result
    c.n-persons.ensures.problem c.requires c.loop-cost-test.true c.loop-cost-item.is in
    let fits : SFits w64 c.loop-cost-item.result.1 = search rules in
    simp to_z-of_z (omega (arith, ints, c.loop-cost-test.true, c.loop-cost.invariant.low, c.loop-cost.invariant.high))

pub loop-cost-preserved : goal.loop-cost-preserved
loop-cost-preserved c =
    let cost = cost_at c.args.problem.now c.args.pairs.now c.loop-cost.cost-index c.loop-cost-item.result
    c.n-persons.ensures.problem c.requires c.loop-cost-test.true c.loop-cost-item.is in
    let more = total_more c.args.problem.now c.args.pairs.now c.loop-cost.cost-index c.loop-cost-item.result
    c.requires c.loop-cost-test.true c.loop-cost-item.is in
    let fits : SFits w64 c.loop-cost-item.result.1 = search rules in
    let long = length_zip HasCost c.args.problem.now c.args.pairs.now c.requires in
    let few = c.n-persons.ensures.problem.size.few in
    let f : FitsSigned w64 (to_z w64 c.loop-cost.sum-bits +ℤ c.loop-cost-item.result.1) =
    omega (arith, ints, c.loop-cost-test.true, c.loop-cost.invariant.low, c.loop-cost.invariant.high) in
    let sum_fits : SFits w64 (to_z w64 c.loop-cost.sum-bits +ℤ c.loop-cost-item.result.1) = search (rules, f) in
    record {
      whole = simp to_z-of_z (omega (arith, ints, c.loop-cost.invariant.whole, more));
      low = simp to_z-of_z (omega (arith, ints, c.loop-cost.invariant.low));
      high = simp to_z-of_z (omega (arith, ints, c.loop-cost.invariant.high));
    }

pub returns : goal.returns
returns c =
    let long = length_zip HasCost c.args.problem.now c.args.pairs.now c.requires in
    let past = total_past c.args.problem.now (objects_of c.args.pairs.now) c.loop-cost.cost-index (omega (arith, c.loop-cost-test.false)) in
    omega (arith, ints, c.loop-cost.invariant.whole, past)
