use Rattle.std.proofs.Common.{ℕ, ℤ, pos, ◌+ℤ◌, length, arith, ◌∙◌, subst, rules, below_more, get_or, SFits, w64}
use mir.Syntax.{w128}
use Rattle.std.proofs.lemmas.Int.{ints, to_z-of_z}
use Rattle.std.proofs.lemmas.List.{get_or_default}
use Rattle.dual_checker.proofs.Worths.{IsUnder, slack_from, first_break}
use Rattle.dual_checker.proofs.slack.first_broken.Goals as goal

pub loop-i-init : goal.loop-i-init
loop-i-init c = λ k e lt. absurd (omega arith)

pub returns-then-worth-own_worth : goal.returns-then-worth-own_worth
returns-then-worth-own_worth c =
    let f : SFits w64 c.index-row-i.result.1 = search rules in
    let p : SFits w128 c.price_at.result = search rules in
    let w : SFits w128 c.worth.result = search rules in
    let g = c.ranges.own_worth in
    let most = c.requires.most in
    let sum : SFits w128 (c.args.own_worth +ℤ pos 1) = omega (arith, ints) in
    let value = simp to_z-of_z at c.worth.ensures.value in
    let price = c.price_at.ensures.value in
    let over = simp to_z-of_z at c.if-worth-own_worth.true in
    let inv = simp to_z-of_z at c.loop-i.invariant in
    first_break c.args.sense _ c.args.prices.now c.args.row.now c.args.own c.loop-i.i c.args.own_worth
    c.index-row-i.result c.requires.row (omega (arith, c.loop-i-test.true)) c.index-row-i.is c.requires.own inv
    (grind (arith, ints, over, value, price))

pub loop-i-preserved : goal.loop-i-preserved
loop-i-preserved c =
    let f : SFits w64 c.index-row-i.result.1 = search rules in
    let p : SFits w128 c.price_at.result = search rules in
    let w : SFits w128 c.worth.result = search rules in
    let g = c.ranges.own_worth in
    let most = c.requires.most in
    let sum : SFits w128 (c.args.own_worth +ℤ pos 1) = omega (arith, ints) in
    let value = simp to_z-of_z at c.worth.ensures.value in
    let price = c.price_at.ensures.value in
    let upto = simp to_z-of_z at c.if-worth-own_worth.false in
    let P : ℕ × ℤ → Type 0 = IsUnder c.args.sense (length c.args.prices.now) c.args.prices.now c.args.own_worth in
    let here : P c.index-row-i.result = grind (arith, ints, upto, value, price) in
    let inv = simp to_z-of_z at c.loop-i.invariant in
    let all = below_more (λ k. (e : ℕ × ℤ) → P (get_or c.args.row.now k e)) c.loop-i.i (λ k l e. inv k e l)
    (λ e. subst P (c.index-row-i.is ∙ get_or_default c.args.row.now c.loop-i.i c.index-row-i.result e (omega (arith, c.loop-i-test.true))) here) in
    simp to_z-of_z (λ k e l. all k l e)

pub returns : goal.returns
returns c =
    let g = c.ranges.own_worth in
    let inv = simp to_z-of_z at c.loop-i.invariant in
    slack_from c.args.sense _ c.args.prices.now c.args.row.now c.args.own c.args.own_worth c.requires.own
    (λ k d lt. inv k d (omega (arith, c.loop-i-test.false)))
