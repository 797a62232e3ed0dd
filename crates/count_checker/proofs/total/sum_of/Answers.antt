use Rattle.std.proofs.Common.{◌≡◌, ◌<◌, ◌+ℤ◌, pos, ℤ, length, cond, get_or, Bool, false, inl, inr, arith, rules, SFits, w64, ap, ◌∙◌}
use mir.Val.{to_z}
use Rattle.std.specs.Int.{w128}
use Rattle.std.proofs.lemmas.Bool.{cases_lt}
use Rattle.std.proofs.lemmas.Int.{ints, to_z-of_z}
use Rattle.assign_core.specs.Sparse.{Triple}
use Rattle.count_checker.specs.Counts.{cost_of}
use Rattle.count_checker.specs.CountLists.{pair_at, problem_in}
use Rattle.count_checker.proofs.Taking.{chosen_end, cost_more}
use Rattle.count_checker.proofs.VerdictLaws.{at, long_pairs}
use Rattle.count_checker.proofs.total.sum_of.Goals as goal

pub loop-place-preserved : goal.loop-place-preserved
loop-place-preserved c =
    let k = c.loop-place.place in
    let l = c.args.lists in
    let plan = c.args.plan.now in
    let t = c.loop-place-test.true in
    let here : k < length l.rows.now = let e = c.requires.costs_long in omega arith in
    let in_pairs : k < length (problem_in l).pairs = let e = long_pairs l c.requires in omega arith in
    let in_plan : k < length plan = let e = c.len.ensures in omega arith in
    let x : ℤ = get_or l.costs.now k (pos 0) in
    let is : (get_or (problem_in l).pairs k (pair_at l k)).2 ≡ x = ap (λ (p : Triple). p.2) (at l c.requires k (pair_at l k) here) in
    let more = cost_more (problem_in l).pairs plan k (pair_at l k) in_pairs in_plan in
    let before = c.loop-place.invariant.so_far in
    let low = c.loop-place.invariant.low in
    let high = c.loop-place.invariant.high in
    let cost = c.cost_if-sum.ensures.cost in
    let least = cost.least in
    let greatest = cost.greatest in
    let fits : SFits w128 c.cost_if-sum.result = search rules in
    let x_fits : SFits w64 x = search rules in
    let sum_fits : SFits w128 (to_z w128 c.loop-place.sum-bits +ℤ c.cost_if-sum.result) = omega (arith, ints) in
    let value = simp to_z-of_z at c.cost_if-sum.ensures.value in
    let v : c.cost_if-sum.result ≡ cond (get_or plan k false) x (pos 0) = value ∙ ap (λ (b : Bool). cond b x (pos 0)) c.has.ensures in
    let y : cond (get_or plan k false) (get_or (problem_in l).pairs k (pair_at l k)).2 (pos 0) ≡ cond (get_or plan k false) x (pos 0) = ap (λ z. cond (get_or plan k false) z (pos 0)) is in
    simp to_z-of_z (record { so_far = omega (arith, ints); low = omega (arith, ints); high = omega (arith, ints) })

pub returns : goal.returns
returns c =
    let k = c.loop-place.place in
    let l = c.args.lists in
    c.loop-place.invariant.so_far ∙ ap cost_of (chosen_end (problem_in l).pairs c.args.plan.now k (elim (cases_lt (length c.args.plan.now) (length (problem_in l).pairs)) [
      | inl lt ↦ inr (let e = c.len.ensures in let f = c.loop-place-test.false in let g = long_pairs l c.requires in let h = c.requires.costs_long in omega arith)
      | inr ge ↦ inl (let e = c.len.ensures in let f = c.loop-place-test.false in let g = long_pairs l c.requires in let h = c.requires.costs_long in omega arith)
    ]))
