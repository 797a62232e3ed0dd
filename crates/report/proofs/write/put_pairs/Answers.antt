use Rattle.std.proofs.Common.{◌∙◌, ap, arith, length, IsSome, SFits, w64, get_or, unwrap_or, pos, rules}
use Rattle.std.proofs.lemmas.Int.{to_z-of_z}
use Rattle.std.proofs.lemmas.Result.{err_from_is_err_and}
use Rattle.assign_core.specs.Rows.{listed_in}
use Rattle.assign_core.proofs.Listed.{length_zip}
use Rattle.report.proofs.Written.{parts_on, parts_cut, pairs_more, pairs_past, put_end}
use Rattle.report.proofs.write.put_pairs.Goals as goal

pub overflow_cast-person : goal.overflow_cast-person
overflow_cast-person g c =
    let l = length_zip (λ row j. IsSome (listed_in row j)) _ _ c.requires.listed in
    let f = c.n-n.ensures.problem.size.few in
    let e = ap length c.objects-object-items.ensures.objects in
    omega (arith, c.loop-i-test.true)

pub overflow_add-person : goal.overflow_add-person
overflow_add-person g c =
    let l = length_zip (λ row j. IsSome (listed_in row j)) _ _ c.requires.listed in
    let f = c.n-n.ensures.problem.size.few in
    let e = ap length c.objects-object-items.ensures.objects in
    omega (arith, c.loop-i-test.true)

pub returns-in_err-put_pair : goal.returns-in_err-put_pair
returns-in_err-put_pair g c =
    let p = err_from_is_err_and c.from_residual.result c.from_residual.ensures.1 in
    let l = length_zip (λ row j. IsSome (listed_in row j)) _ _ c.requires.listed in
    let e = c.objects-object-items.ensures.objects in
    let n = ap length e in
    let f : SFits w64 c.unwrap_or-cost.result = search rules in
    let x = c.object-item.is ∙ ap (λ xs. get_or xs c.loop-i.i c.object-item.result) e in
    rw p.1 (parts_cut _ _ _ _ c.loop-i.pending _ _ _ (pairs_more c.args.problem.now c.args.assignment.now c.loop-i.i
    c.object-item.result c.unwrap_or-cost.result l (omega (arith, c.loop-i-test.true)) x
    (c.unwrap_or-cost.ensures ∙ ap (λ o. unwrap_or o (pos 0)) c.cost_of.ensures)) c.loop-i.invariant (simp to_z-of_z at c.in_err-put_pair.ensures))

pub loop-i-preserved : goal.loop-i-preserved
loop-i-preserved g c =
    let l = length_zip (λ row j. IsSome (listed_in row j)) _ _ c.requires.listed in
    let e = c.objects-object-items.ensures.objects in
    let n = ap length e in
    let f : SFits w64 c.unwrap_or-cost.result = search rules in
    let x = c.object-item.is ∙ ap (λ xs. get_or xs c.loop-i.i c.object-item.result) e in
    parts_on _ _ _ _ c.loop-i.pending c.put_pair.new.pending _ _ _
    (pairs_more c.args.problem.now c.args.assignment.now c.loop-i.i c.object-item.result c.unwrap_or-cost.result
    l (omega (arith, c.loop-i-test.true)) x
    (c.unwrap_or-cost.ensures ∙ ap (λ o. unwrap_or o (pos 0)) c.cost_of.ensures)) c.loop-i.invariant (simp to_z-of_z at c.in_ok-put_pair.ensures)

pub returns : goal.returns
returns g c =
    let e = ap length c.objects-object-items.ensures.objects in
    let past = pairs_past c.args.problem.now c.args.assignment.now c.loop-i.i (omega (arith, c.loop-i-test.false)) in
    put_end _ _ _ c.loop-i.pending _ past c.loop-i.invariant
