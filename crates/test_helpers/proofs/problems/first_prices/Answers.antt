use Rattle.std.proofs.Common.{ℤ, pos, ◌≤ℤ◌, List, arith, subst, sym}
use Rattle.std.proofs.lemmas.Int.{ints}
use Rattle.std.proofs.lemmas.Result.{IfOk-weaker}
use Rattle.assign_core.specs.declared.numbers.TheConstants.{GREATEST_FIRST_PRICE}
use Rattle.scaled_values.specs.Scaled.{greatest_of}
use Rattle.scaled_values.proofs.BenefitRange.{greatest_holds}
use Rattle.test_helpers.proofs.problems.first_prices.Goals as goal

pub new-requires : goal.new-requires
new-requires c =
    let few = c.requires.few in
    let long = c.loop-i.invariant.long in
    let end = c.loop-i.auto.i-end in
    record { few = omega arith; each = c.loop-i.invariant.each }

pub returns-clause-low : goal.returns-clause-low
returns-clause-low c =
    let some : pos 0 ≤ℤ GREATEST_FIRST_PRICE = omega (arith, ints) in
    let low = greatest_holds (λ x. x ≤ℤ GREATEST_FIRST_PRICE) c.loop-i.values.items some c.loop-i.invariant.low in
    IfOk-weaker c.new.result _ _ (λ prices is. subst (λ (p : List ℤ). greatest_of p ≤ℤ GREATEST_FIRST_PRICE) (sym is) low) c.new.ensures
