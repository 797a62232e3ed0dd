use Rattle.std.proofs.Common.{◌≤◌, ◌<◌, arith}
use Rattle.assign_core.specs.Numbered.{numbered}
use Rattle.dual_checker.proofs.Firsts.{first_at, one_more}
use Rattle.assign_core.proofs.NumberedLemmas.{number_within, numbered-next}
use Rattle.dual_checker.proofs.counts.first_over_one.Goals as goal

pub loop-i-init : goal.loop-i-init
loop-i-init c = λ k h. absurd (omega arith)

pub returns-then-count-gt1 : goal.returns-then-count-gt1
returns-then-count-gt1 c =
    let counts = c.args.counts.now in
    first_at (λ k. 1 < numbered counts k 0) _ c.loop-i.i c.loop-i-test.true (λ k h f. let few =
    c.loop-i.invariant k h in omega arith) (rw (numbered-next counts c.loop-i.i 0) c.if-count-gt1.true)

pub loop-i-preserved : goal.loop-i-preserved
loop-i-preserved c =
    let counts = c.args.counts.now in
    one_more (λ k. numbered counts k 0 ≤ 1) c.loop-i.i c.loop-i.invariant (rw (numbered-next counts c.loop-i.i 0) c.if-count-gt1.false)

pub returns : goal.returns
returns c = λ j h. c.loop-i.invariant j (number_within _ _ j (omega (arith, c.loop-i-test.false)) h)
