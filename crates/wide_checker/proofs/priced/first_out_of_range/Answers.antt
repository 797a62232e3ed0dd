use Rattle.std.proofs.Common.{List, ℤ, ℕ, pos, map, arith, rules, refl, get_or, sym, subst, SFits}
use Rattle.std.specs.Int.{w128}
use Rattle.std.proofs.lemmas.Int.{to_z-of_z}
use Rattle.std.proofs.lemmas.List.{length-map}
use Rattle.assign_core.specs.Prices.{price_of}
use Rattle.assign_core.proofs.NumberedLemmas.{numbered-next, All-from_numbers}
use Rattle.dual_checker.proofs.Firsts.{first_at, one_more}
use Rattle.exact_checker.specs.Faults.{IsOutOfRange}
use Rattle.wide_checker.specs.WideNumbers.{IsInPrices, wide_value}
use Rattle.wide_checker.proofs.priced.first_out_of_range.Goals as goal

pub loop-i-init : goal.loop-i-init
loop-i-init c = λ k h. absurd (omega arith)

pub returns-then-not-is_price : goal.returns-then-not-is_price
returns-then-not-is_price c =
    let prices : List ℤ = map wide_value c.args.prices.now in
    let i : ℕ = c.loop-i.i in
    let price = numbered-next prices i (pos 0) in
    let l = c.loop-i-test.true in
    let fits : SFits w128 c.value_at.result = search rules in
    let says = simp to_z-of_z at c.is_price.ensures in
    let out : ¬ IsInPrices (get_or prices i (pos 0)) = λ h.
    let yes = says.1 (subst IsInPrices (sym c.value_at.ensures) h) in let no = c.if-not-is_price.true in cc in
    first_at (IsOutOfRange IsInPrices prices) _ i l (λ k h f. f (c.loop-i.invariant k h)) (rw price out)

pub loop-i-preserved : goal.loop-i-preserved
loop-i-preserved c =
    let prices : List ℤ = map wide_value c.args.prices.now in
    let i : ℕ = c.loop-i.i in
    let price = numbered-next prices i (pos 0) in
    let fits : SFits w128 c.value_at.result = search rules in
    let says = simp to_z-of_z at c.is_price.ensures in
    let here : IsInPrices (get_or prices i (pos 0)) = subst IsInPrices c.value_at.ensures (says.0 (rw c.if-not-is_price.false refl)) in
    one_more (λ k. IsInPrices (price_of prices k)) i c.loop-i.invariant (rw price here)

pub returns : goal.returns
returns c =
    let long = length-map c.args.prices.now wide_value in
    All-from_numbers IsInPrices (map wide_value c.args.prices.now) (pos 0) (λ i some last. c.loop-i.invariant i
    (record { first = some; last = omega (arith, c.loop-i-test.false) }))
