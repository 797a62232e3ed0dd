use Rattle.std.proofs.Common.{length, get_or, pos, arith, rules, SFits, w64}
use mir.Syntax.{w128}
use Rattle.std.proofs.lemmas.Int.{to_z-of_z}
use Rattle.dual_checker.proofs.RoundedSums.{rounded_from, one_rounded}
use Rattle.dual_checker.proofs.rounded.set_rounded.Goals as goal

pub loop-i-init : goal.loop-i-init
loop-i-init c = λ k lt. absurd (omega arith)

pub loop-i-preserved : goal.loop-i-preserved
loop-i-preserved c =
    let prices = c.args.prices.now in
    let i = c.loop-i.i in
    let r : SFits w64 c.round_down.result = search rules in
    let p : SFits w128 (get_or prices i (pos 0)) = search rules in
    let below = simp to_z-of_z at c.round_down.ensures.below in
    simp to_z-of_z (one_rounded (length prices) c.loop-i.rounded prices i c.round_down.result
    (omega (arith, c.loop-i.auto.rounded, c.requires.long, c.loop-i-test.true)) c.loop-i.invariant
    (record { range = c.round_down.ensures.range; below = below }))

pub returns : goal.returns
returns c = rounded_from c.loop-i.rounded c.args.prices.now c.loop-i.i (omega (
  arith,
  c.loop-i.auto.rounded,
  c.requires.long,
)) c.loop-i-test.false c.loop-i.invariant
