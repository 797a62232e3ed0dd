use Rattle.std.proofs.Common.{◌≡◌, ◌<◌, ℕ, List, false, length, get_or, arith, ◌∙◌, sym, subst, below_more}
use Rattle.assign_core.specs.Numbered.{IsNumber, IsMarked}
use Rattle.std.proofs.lemmas.List.{get_or_default}
use Rattle.dual_checker.proofs.Given.{given_at, given_inside}
use Rattle.dual_checker.proofs.HallFirsts.{first_named}
use Rattle.dual_checker.proofs.Places.{at_place}
use Rattle.dual_checker.proofs.marks.first_unmarked.Goals as goal

pub returns-then-not-marks-place : goal.returns-then-not-marks-place
returns-then-not-marks-place g c =
    let p = g.T.Placed in
    let xs = c.args.given.now in
    let given : List ℕ = p.numbers_of xs in
    let marks = c.args.marks.now in
    let i = c.loop-one.one-index in
    let x : ℕ = p.number_of c.one-item.result in
    let lt : i < length xs = c.loop-one-test.true in
    let inside : i < length given = given_inside p.number_of p.numbers_of p.as_many p.in_order xs i lt in
    let at : x ≡ get_or given i x = given_at p.number_of p.numbers_of p.as_many p.in_order xs i c.one-item.result c.one-item.is in
    let within : IsNumber (length marks) x = subst (IsNumber (length marks)) (sym at) (c.requires.within i x inside) in
    let read = at_place marks x c.place.result false within c.place.ensures in
    let unset = c.if-not-marks-place.true in
    first_named (λ y. ¬ IsMarked marks y) given (length marks) i x c.requires.rise c.requires.within inside
    at (λ k low h. h (c.loop-one.invariant k low)) (λ m. cc)

pub loop-one-preserved : goal.loop-one-preserved
loop-one-preserved g c =
    let p = g.T.Placed in
    let xs = c.args.given.now in
    let given : List ℕ = p.numbers_of xs in
    let marks = c.args.marks.now in
    let i = c.loop-one.one-index in
    let x : ℕ = p.number_of c.one-item.result in
    let lt : i < length xs = c.loop-one-test.true in
    let inside : i < length given = given_inside p.number_of p.numbers_of p.as_many p.in_order xs i lt in
    let at : x ≡ get_or given i x = given_at p.number_of p.numbers_of p.as_many p.in_order xs i c.one-item.result c.one-item.is in
    let within : IsNumber (length marks) x = subst (IsNumber (length marks)) (sym at) (c.requires.within i x inside) in
    let read = at_place marks x c.place.result false within c.place.ensures in
    let set = c.if-not-marks-place.false in
    let here : IsMarked marks (get_or given i 0) = subst (IsMarked marks) (at ∙ get_or_default given i x 0 inside) (cc) in
    below_more _ _ c.loop-one.invariant here

pub returns : goal.returns
returns g c = λ j h.
    let p = g.T.Placed in
    let long = p.as_many c.args.given.now in
    let at = get_or_default (p.numbers_of c.args.given.now) h.0 0 j h.1 ∙ h.2 in
    subst (IsMarked c.args.marks.now) at (c.loop-one.invariant h.0 (omega (arith, h.1, c.loop-one-test.false)))
