use Rattle.std.proofs.Common.{◌↔◌, arith, subst}
use Rattle.assign_core.specs.Numbered.{IsNumber, IsMarked}
use Rattle.exact_checker.proofs.Marks.{all_marked}
use Rattle.exact_checker.proofs.hall_marks.mark_each.Goals as goal

pub returns : goal.returns
returns c = λ j.
    let long = c.loop-mark.auto.marks in
    let end = c.loop-mark-test.false in
    let marks = c.loop-mark.marks in
    subst (λ n. IsMarked marks j ↔ IsNumber n j) long (all_marked marks (λ k lt. c.loop-mark.invariant k (omega arith)) j)
