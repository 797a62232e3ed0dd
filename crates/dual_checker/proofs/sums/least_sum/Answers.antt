use Rattle.std.proofs.Common.{◌≡◌, ℕ, ℤ, pos, ◌+ℤ◌, ◌+◌, ◌<◌, length, arith, get_or, rules, subst, sym, ap, ◌∙◌, SFits, w64}
use Rattle.std.proofs.lemmas.Int.{to_z-of_z}
use Rattle.std.proofs.lemmas.List.{get_or_default}
use Rattle.assign_core.specs.Numbered.{IsNumber}
use Rattle.assign_core.specs.Prices.{price_of}
use Rattle.dual_checker.specs.inside.Rounded.{minimised}
use Rattle.dual_checker.proofs.RoundedSums.{least_more}
use Rattle.dual_checker.proofs.Places.{at_place}
use Rattle.dual_checker.proofs.sums.least_sum.Goals as goal

pub loop-object-init : goal.loop-object-init
loop-object-init c = λ k e lt. absurd (omega arith)

pub loop-object-preserved : goal.loop-object-preserved
loop-object-preserved c =
    let i = c.loop-object.object-index in
    let entry : ℕ × ℤ = c.loop-object-item.result in
    let rounded = c.args.rounded.now in
    let number = subst (IsNumber (length rounded)) (sym (ap (λ e. e.0) c.loop-object-item.is)) (c.requires.row.within i entry c.loop-object-test.true) in
    let place = at_place rounded entry.0 c.place.result (pos 0) number c.place.ensures in
    let a : SFits w64 entry.1 = search rules in
    let b : SFits w64 (get_or rounded c.place.result (pos 0)) = search rules in
    let s : SFits w64 c.sum_of.result = search rules in
    let r : SFits w64 c.min-least.result = search rules in
    let sum = simp to_z-of_z at c.sum_of.ensures in
    let low = c.min-least.ensures.self_bound in
    let under = simp to_z-of_z at c.min-least.ensures.other_bound in
    let of : ℕ × ℤ → ℤ = λ e. minimised c.args.sense e.1 +ℤ price_of rounded e.0 in
    let whole : c.sum_of.result ≡ of entry = sum ∙ ap (λ f. minimised c.args.sense entry.1 +ℤ f) place in
    let all = λ (k : ℕ) (e : ℕ × ℤ) (lt : k < i + 1). least_more (λ n. of (get_or c.args.pairs.now n e))
    i _ c.min-least.result c.sum_of.result (λ n below. c.loop-object.invariant n e below) low under
    (whole ∙ ap of (c.loop-object-item.is ∙ get_or_default c.args.pairs.now i entry e c.loop-object-test.true)) k lt in
    simp to_z-of_z all

pub returns : goal.returns
returns c = λ k e lt. c.loop-object.invariant k e (omega (arith, c.loop-object-test.false))
