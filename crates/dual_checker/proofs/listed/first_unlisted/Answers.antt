use Rattle.std.proofs.Common.{◌+◌, [], arith, sym, ap, ◌∙◌, not, IsSome, rules}
use Rattle.std.proofs.lemmas.List.{get_or_default}
use Rattle.assign_core.specs.Rows.{listed_in, IsListed}
use Rattle.assign_core.proofs.NumberedLemmas.{numbered-next}
use Rattle.assign_core.proofs.Zips.{pairs_from}
use Rattle.dual_checker.specs.Faults.{IsUnlisted, own_object}
use Rattle.dual_checker.proofs.Firsts.{first_at, one_more}
use Rattle.dual_checker.proofs.listed.first_unlisted.Goals as goal

pub loop-i-init : goal.loop-i-init
loop-i-init c = λ k h. absurd (omega arith)

pub returns-then-is_none : goal.returns-then-is_none
returns-then-is_none c =
    let rows = c.args.problem.now in
    let xs = c.args.objects.now in
    let i = c.loop-i.i in
    let lt = c.loop-i-test.true in
    let object = numbered-next xs i 0 ∙ sym (c.index-objects-i.is ∙ get_or_default xs i c.index-objects-i.result 0 lt) in
    let none : IsUnlisted rows xs (i + 1) = rw object (λ s. let no = ap not c.if-is_none.true in cc) in
    first_at (IsUnlisted rows xs) _ i (omega (arith, c.requires, lt)) (λ k h f. f (c.loop-i.invariant k h)) none

pub loop-i-preserved : goal.loop-i-preserved
loop-i-preserved c =
    let rows = c.args.problem.now in
    let xs = c.args.objects.now in
    let object = numbered-next xs c.loop-i.i 0 ∙ sym (c.index-objects-i.is ∙ get_or_default xs c.loop-i.i c.index-objects-i.result 0 c.loop-i-test.true) in
    one_more (λ k. IsListed rows k (own_object xs k)) c.loop-i.i c.loop-i.invariant (rw object (search rules))

pub returns : goal.returns
returns c =
    let rows = c.args.problem.now in
    let xs = c.args.objects.now in
    let long = sym c.requires in
    pairs_from (λ row j. IsSome (listed_in row j)) rows xs [] 0 long
    (λ i some last. c.loop-i.invariant i (record { first = some; last = omega (arith, long, last, c.loop-i-test.false) }))
