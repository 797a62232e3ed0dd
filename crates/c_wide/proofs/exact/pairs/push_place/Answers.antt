use Rattle.std.proofs.Common.{ℕ, ◌<◌, ◌/◌, ◌%◌, ◌+◌, ◌∙◌, arith, subst, sym}
use Rattle.std.proofs.lemmas.Nat.{div_below, mod_below}
use mathlib.Core.Bool.{true≢false}
use Rattle.assign_core.specs.Numbered.{IsNumber}
use Rattle.c_wide.proofs.PlacedPairs.{place_pushed, place_skipped}
use Rattle.c_wide.proofs.exact.pairs.push_place.Goals as goal

pub returns-then-not-is_number : goal.returns-then-not-is_number
returns-then-not-is_number c = λ n long has.
    place_skipped c.args.unit n c.args.m c.args.costs.now c.args.place c.args.pairs.now has
    (λ t. true≢false (sym t ∙ (sym c.is_number.ensures ∙ c.if-not-is_number.true)))

pub returns : goal.returns
returns c = λ n long has.
    let some = c.requires.objects.some in
    let person : IsNumber n (c.args.place / c.args.m + 1) =
    (let d = div_below c.args.place c.args.m n some (subst (λ (l : ℕ). c.args.place < l) long c.requires.place) in
    record { first = omega arith; last = omega arith }) in
    let object : IsNumber c.args.m (c.args.place % c.args.m + 1) =
    (let d = mod_below c.args.place c.args.m some in record { first = omega arith; last = omega arith }) in
    place_pushed c.args.unit n c.args.m c.args.costs.now c.args.place c.wide_in-cost.result _ _ has c.in_ok-push_pair.ensures
    person object c.wide_in-cost.ensures.range c.wide_in-cost.ensures.units
