use Rattle.std.proofs.Common.{◌<◌, ℕ, List, length, get_or, arith, ◌∙◌}
use Rattle.std.proofs.lemmas.List.{get_or_default}
use Rattle.assign_core.specs.Numbered.{IsNumber}
use Rattle.dual_checker.proofs.Given.{given_at, given_inside, given_number}
use Rattle.dual_checker.proofs.HallMarking.{adds_all, adds_item}
use Rattle.dual_checker.proofs.marks.mark_numbers.Goals as goal

pub loop-one-preserved : goal.loop-one-preserved
loop-one-preserved g c =
    let p = g.T.Placed in
    let xs = c.args.given.now in
    let given : List ℕ = p.numbers_of xs in
    let i = c.loop-one.one-index in
    let x : ℕ = p.number_of c.one-item.result in
    let lt : i < length xs = c.loop-one-test.true in
    let inside : i < length given = given_inside p.number_of p.numbers_of p.as_many p.in_order xs i lt in
    let at = given_at p.number_of p.numbers_of p.as_many p.in_order xs i c.one-item.result c.one-item.is ∙ get_or_default given i x 0 inside in
    let within : IsNumber (length c.loop-one.marks) x = given_number p.number_of p.numbers_of p.as_many p.in_order xs _ _ i c.one-item.result
    c.requires c.loop-one.auto.marks lt c.one-item.is in
    adds_item (λ k. get_or given k 0) i x c.place.result c.args.marks.now c.loop-one.marks at within c.place.ensures c.loop-one.invariant

pub returns : goal.returns
returns g c =
    let p = g.T.Placed in
    let long = p.as_many c.args.given.now in
    let end = c.loop-one-test.false in
    let most = c.loop-one.auto.one-index-end in
    adds_all (p.numbers_of c.args.given.now) c.loop-one.one-index c.args.marks.now c.loop-one.marks (omega arith) (omega arith) c.loop-one.invariant
