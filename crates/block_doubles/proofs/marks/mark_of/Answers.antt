use Rattle.std.proofs.Common.{◌≤ℤ◌, ◌-◌, arith, sym, ◌∙◌}
use Rattle.std.proofs.lemmas.Int.{by_lt_z}
use mathlib.Core.Bool.{true≢false}
use Rattle.double_checker.specs.inside.Pairs.{at, paid}
use Rattle.block_doubles.proofs.BestPairs.{own_at}
use Rattle.block_doubles.proofs.marks.mark_of.Goals as goal

pub returns : goal.returns
returns c =
    let j = c.args.object in
    let v = paid c.args.sense c.args.number_cost c.args.number_price in
    let s = paid c.args.sense (at c.args.row.now (c.args.object - 1)) (at c.args.prices.now (c.args.object - 1)) in
    let some = c.if-object-eq0.false in
    let few = c.if-object-row.false in
    let first = c.is_less.ensures in
    let second = c.is_less-2.ensures in
    own_at c.args.sense v c.args.row.now c.args.prices.now j (record { first = omega arith; last = omega arith })
    (sym c.is_number.ensures ∙ c.if-not-is_number.false)
    (by_lt_z {P = v ≤ℤ s} s v (λ lt. absurd (true≢false (sym (first.1 lt) ∙ c.if-is_less.false))) (λ le. le))
    (by_lt_z {P = s ≤ℤ v} v s (λ lt. absurd (true≢false (sym (second.1 lt) ∙ c.if-is_less-2.false))) (λ le. le))
