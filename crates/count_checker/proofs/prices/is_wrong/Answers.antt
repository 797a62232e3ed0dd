use Rattle.std.proofs.Common.{rules, ◌≡◌, ◌≤ℤ◌, ◌<◌, length, SFits, arith}
use Rattle.std.specs.Int.{w128}
use Rattle.std.proofs.lemmas.Int.{ints, to_z-of_z}
use Rattle.count_checker.specs.CountLists.{pair_at}
use Rattle.count_checker.specs.CountPrices.{rest_of}
use Rattle.count_checker.proofs.PairsRight.{right_by_rival}
use Rattle.count_checker.proofs.prices.is_wrong.Goals as goal
use Rattle.count_checker.proofs.prices.is_wrong.Goals.{else-has-via-then-has+else-own-gt0, else-has-via-else-has}

pub returns-in-Some-clause-no : goal.returns-in-Some-clause-no
returns-in-Some-clause-no c = λ e.
    let l = c.args.lists in
    let r = c.args.row_prices.now in
    let v = c.args.column_prices.now in
    let k = c.args.place in
    let h = c.in-Some.held in
    let f : SFits w128 c.rest_at-own.result = search rules in
    let g : SFits w128 c.rest_at.result = search rules in
    let own : c.rest_at-own.result ≡ rest_of l.sense r v (pair_at l k) = c.rest_at-own.ensures in
    let his : c.rest_at.result ≡ rest_of l.sense r v (pair_at l h) = c.rest_at.ensures in
    let test = simp to_z-of_z at e in
    let less : rest_of l.sense r v (pair_at l h) ≤ℤ rest_of l.sense r v (pair_at l k) = grind (arith, ints, test, own, his) in
    let below : h < length l.rows.now = let a = c.in-Some.ensures.0 in let b = c.requires.holding.inside in omega arith in
    right_by_rival l c.args.plan.now c.requires.single r v k h below c.in-Some.ensures.1 c.in-Some.ensures.2
    (λ taken. elim c.else-has.branch [
      | else-has-via-then-has+else-own-gt0 w ↦ let t = simp to_z-of_z at w.if-own-gt0.false in grind (arith, ints, t, own)
      | else-has-via-else-has w ↦ absurd (let t = w.if-has.false in cc)
    ])
    less
