use Rattle.std.proofs.Common.{◌≡◌, rules, arith, subst, IsTrue}
use Rattle.double_costs.specs.Units.{is_number}
use Rattle.double_checker.specs.inside.Pairs.{at}
use Rattle.block_doubles.specs.inside.Places.{IsBestFrom}
use Rattle.block_doubles.proofs.BestPairs.{best_finite, best_more, guess_finite, guess_price_finite, price_finite}
use Rattle.block_doubles.proofs.least.best_among.Goals as goal

pub better_of-best-requires-clause-guess_cost : goal.better_of-best-requires-clause-guess_cost
better_of-best-requires-clause-guess_cost c = guess_finite c.args.row.now c.args.prices.now c.args.guess c.requires.guess

pub better_of-best-requires-clause-guess_price : goal.better_of-best-requires-clause-guess_price
better_of-best-requires-clause-guess_price c = guess_price_finite c.args.row.now c.args.prices.now c.args.guess c.requires.guess

pub better_of-best-requires-clause-best_cost : goal.better_of-best-requires-clause-best_cost
better_of-best-requires-clause-best_cost c =
    best_finite c.args.sense c.args.guess c.args.row.now c.args.prices.now c.loop-k.k c.loop-k.best c.loop-k.invariant

pub better_of-best-requires-clause-best_price : goal.better_of-best-requires-clause-best_price
better_of-best-requires-clause-best_price c =
    price_finite c.args.sense c.args.guess c.args.row.now c.args.prices.now c.loop-k.k c.loop-k.best c.loop-k.invariant

pub loop-k-preserved : goal.loop-k-preserved
loop-k-preserved c =
    let p : IsTrue (is_number (at c.args.prices.now c.loop-k.k)) = search rules in
    best_more c.args.sense c.args.guess c.args.row.now c.args.prices.now c.loop-k.k c.loop-k.best c.better_of-best.result
    (let lt = c.loop-k-test.true in let to = c.requires.to in omega arith) c.loop-k.invariant p c.better_of-best.ensures

pub returns : goal.returns
returns c =
    let end = c.loop-k-test.false in
    let most = c.loop-k.auto.k-end in
    let order = c.requires.order in
    let whole : c.loop-k.k ≡ c.args.to = omega arith in
    subst (λ k. IsBestFrom c.args.sense c.args.guess c.args.row.now c.args.prices.now k c.loop-k.best) whole c.loop-k.invariant
