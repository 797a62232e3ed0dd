use Rattle.std.proofs.Common.{false, arith}
use Rattle.assign_core.specs.Numbered.{IsMarked}
use Rattle.assign_core.proofs.NumberedLemmas.{number_within, numbered-next}
use Rattle.dual_checker.proofs.Firsts.{first_at, one_more}
use Rattle.exact_checker.proofs.hall_marks.lowest_unmarked.Goals as goal

pub loop-i-init : goal.loop-i-init
loop-i-init c = λ k h. absurd (omega arith)

pub returns-then-not-mark : goal.returns-then-not-mark
returns-then-not-mark c =
    let marks = c.args.marks.now in
    let at = numbered-next marks c.loop-i.i false in
    let unset = c.if-not-mark.true in
    first_at (λ k. ¬ IsMarked marks k) _ c.loop-i.i c.loop-i-test.true (λ k h f. f (c.loop-i.invariant k h)) (λ m. cc)

pub loop-i-preserved : goal.loop-i-preserved
loop-i-preserved c =
    let marks = c.args.marks.now in
    let at = numbered-next marks c.loop-i.i false in
    let set = c.if-not-mark.false in
    one_more (IsMarked marks) c.loop-i.i c.loop-i.invariant (cc)

pub returns : goal.returns
returns c = λ j h. c.loop-i.invariant j (number_within _ _ j (omega (arith, c.loop-i-test.false)) h)
