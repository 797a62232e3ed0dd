use Rattle.std.proofs.Common.{ℕ, ℤ, pos, ◌+ℤ◌, length, arith, ◌∙◌, ap, subst, sym, rules, below_more, get_or, SFits, w64}
use mir.Syntax.{w128}
use Rattle.std.proofs.lemmas.Int.{ints, to_z-of_z}
use Rattle.std.proofs.lemmas.List.{get_or_default}
use Rattle.parallel_checker.proofs.Persons.{IsNear, near_if_slack, slack_if_near}
use Rattle.parallel_checker.proofs.slack.has_slack.Goals as goal

pub returns-then-value_of-own_value : goal.returns-then-value_of-own_value
returns-then-value_of-own_value c =
    let f : SFits w64 c.index-row-i.result.1 = search rules in
    let p : SFits w128 c.price.result = search rules in
    let w : SFits w128 c.value_of.result = search rules in
    let g = c.ranges.own_value in
    let most = c.requires.most in
    let sum : SFits w128 (c.args.own_value +ℤ pos 1) = omega (arith, ints) in
    let P : ℕ → ℕ × ℤ → Type 0 = λ n. IsNear c.args.sense n c.args.prices.now c.args.own_value in
    let long = ap length c.as_slice.ensures.prices in
    let value = simp to_z-of_z at c.value_of.ensures.value in
    let price = c.price.ensures.price in
    let over = simp to_z-of_z at c.if-value_of-own_value.true in (
      λ t. absurd (search rules),
      λ h.
          let near = near_if_slack c.args.sense _ c.args.prices.now c.args.row.now c.args.own c.args.own_value c.requires.own h
          c.loop-i.i c.index-row-i.result c.loop-i-test.true in
          let here : P (length c.as_slice.result.now) c.index-row-i.result =
          subst (λ n. P n c.index-row-i.result) (sym long) (subst (P (length c.args.prices.now)) (sym c.index-row-i.is) near) in
          absurd (grind (arith, ints, over, value, price, here)),
    )

pub loop-i-preserved : goal.loop-i-preserved
loop-i-preserved c =
    let f : SFits w64 c.index-row-i.result.1 = search rules in
    let p : SFits w128 c.price.result = search rules in
    let w : SFits w128 c.value_of.result = search rules in
    let g = c.ranges.own_value in
    let most = c.requires.most in
    let sum : SFits w128 (c.args.own_value +ℤ pos 1) = omega (arith, ints) in
    let value = simp to_z-of_z at c.value_of.ensures.value in
    let price = c.price.ensures.price in
    let upto = simp to_z-of_z at c.if-value_of-own_value.false in
    let P : ℕ × ℤ → Type 0 = IsNear c.args.sense (length c.as_slice.result.now) c.args.prices.now c.args.own_value in
    let here : P c.index-row-i.result = grind (arith, ints, upto, value, price) in
    let inv = simp to_z-of_z at c.loop-i.invariant in
    let all = below_more (λ k. (e : ℕ × ℤ) → P (get_or c.args.row.now k e)) c.loop-i.i (λ k l e. inv k e l)
    (λ e. subst P (c.index-row-i.is ∙ get_or_default c.args.row.now c.loop-i.i c.index-row-i.result e c.loop-i-test.true) here) in
    simp to_z-of_z (λ k e l. all k l e)

pub returns : goal.returns
returns c =
    let g = c.ranges.own_value in
    let inv = simp to_z-of_z at c.loop-i.invariant in
    let P : ℕ → ℕ × ℤ → Type 0 = λ n. IsNear c.args.sense n c.args.prices.now c.args.own_value in
    let long = ap length c.as_slice.ensures.prices in (
      λ t. slack_if_near c.args.sense _ c.args.prices.now c.args.row.now c.args.own c.args.own_value c.requires.own
          (λ k d lt. subst (λ n. P n (get_or c.args.row.now k d)) long (inv k d (omega (arith, lt, c.loop-i-test.false)))),
      λ h. search rules,
    )
