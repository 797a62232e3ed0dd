use Rattle.std.proofs.Common.{pos, arith, rules, refl, get_or, SFits, w64}
use Rattle.std.proofs.lemmas.Int.{to_z-of_z}
use Rattle.assign_core.specs.Prices.{price_of}
use Rattle.cost_lists.specs.Exact.{IsPriceInLimits}
use Rattle.exact_checker.specs.Faults.{IsOutOfRange}
use Rattle.dual_checker.proofs.Firsts.{first_at, one_more}
use Rattle.assign_core.proofs.NumberedLemmas.{numbered-next, All-from_numbers}
use Rattle.exact_checker.proofs.priced.first_out_of_range.Goals as goal

pub loop-i-init : goal.loop-i-init
loop-i-init c = λ k h. absurd (omega arith)

pub returns-then-not-is_price : goal.returns-then-not-is_price
returns-then-not-is_price c =
    let prices = c.args.prices.now in
    let price = numbered-next prices c.loop-i.i (pos 0) in
    let l = c.loop-i-test.true in
    let fits : SFits w64 (get_or prices c.loop-i.i (pos 0)) = search rules in
    let says = simp to_z-of_z at c.is_price.ensures in
    let out : ¬ IsPriceInLimits (get_or prices c.loop-i.i (pos 0)) = λ h. let yes = says.1 h in let no = c.if-not-is_price.true in cc in
    first_at (IsOutOfRange IsPriceInLimits prices) _ c.loop-i.i l (λ k h f. f (c.loop-i.invariant k h)) (rw price out)

pub loop-i-preserved : goal.loop-i-preserved
loop-i-preserved c =
    let prices = c.args.prices.now in
    let price = numbered-next prices c.loop-i.i (pos 0) in
    let l = c.loop-i-test.true in
    let fits : SFits w64 (get_or prices c.loop-i.i (pos 0)) = search rules in
    let says = simp to_z-of_z at c.is_price.ensures in
    let here : IsPriceInLimits (get_or prices c.loop-i.i (pos 0)) = says.0 (rw c.if-not-is_price.false refl) in
    one_more (λ k. IsPriceInLimits (price_of prices k)) c.loop-i.i c.loop-i.invariant (rw price here)

pub returns : goal.returns
returns c = All-from_numbers IsPriceInLimits c.args.prices.now (pos 0) (λ i some last. c.loop-i.invariant i
    (record { first = some; last = omega (arith, c.loop-i-test.false) }))
