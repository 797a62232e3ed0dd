use Rattle.std.proofs.Common.{◌≡◌, ◌*◌, ◌+◌, arith, subst}
use Rattle.block_doubles.specs.inside.Places.{IsBestFrom}
use Rattle.block_doubles.proofs.BestPairs.{guess_is}
use Rattle.block_doubles.proofs.least.best_of_steps.Goals as goal

pub loop-s-init : goal.loop-s-init
loop-s-init c = guess_is c.args.sense c.args.guess c.args.row.now c.args.prices.now c.requires.guess

pub loop-s-preserved : goal.loop-s-preserved
loop-s-preserved c =
    let more : c.loop-s.s * 64 + 64 ≡ (c.loop-s.s + 1) * 64 = omega arith in
    subst (λ k. IsBestFrom c.args.sense c.args.guess c.args.row.now c.args.prices.now k c.best_of_step-best.result) more c.best_of_step-best.ensures

pub returns : goal.returns
returns c =
    let end = c.loop-s-test.false in
    let most = c.loop-s.auto.s-end in
    let whole : c.loop-s.s * 64 ≡ c.args.steps * 64 = omega arith in
    subst (λ k. IsBestFrom c.args.sense c.args.guess c.args.row.now c.args.prices.now k c.loop-s.best) whole c.loop-s.invariant
