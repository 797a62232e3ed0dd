use Rattle.std.proofs.Common.{◌≡◌, ◌+◌, pos, [], length, map, arith, sym, subst, ◌∙◌}
use Rattle.std.proofs.lemmas.List.{get_or_default, length-map}
use Rattle.assign_core.specs.Numbered.{IsNumber}
use Rattle.assign_core.specs.Rows.{row_of}
use Rattle.assign_core.specs.Benefits.{benefit_row}
use Rattle.assign_core.specs.Slackness.{HasSlack}
use Rattle.assign_core.proofs.NumberedLemmas.{numbered-next}
use Rattle.assign_core.proofs.Zips.{pairs_from}
use Rattle.dual_checker.specs.Faults.{BreaksSlack, BreaksSlackOf, IsFirst, IsShort, own_object}
use Rattle.dual_checker.proofs.Firsts.{first_at, one_more}
use Rattle.dual_checker.proofs.Fronts.{own_within}
use Rattle.dual_checker.proofs.Worths.{by_number, slack_unbroken}
use Rattle.dual_checker.proofs.slack.first_short.Goals as goal

pub loop-i-init : goal.loop-i-init
loop-i-init c = λ k h. absurd (omega arith)

pub first_of_row-requires-clause-number : goal.first_of_row-requires-clause-number
first_of_row-requires-clause-number c =
    subst (λ m. IsNumber m c.index-objects-i.result) (sym c.requires.priced)
    (own_within (length c.args.problem.now) c.args.problem.now c.args.objects.now c.loop-i.i
    c.index-objects-i.result c.requires.long c.n-persons.ensures.problem.each c.requires.listed
    c.loop-i-test.true c.index-objects-i.is)

pub returns-in-Some : goal.returns-in-Some
returns-in-Some c =
    let xs = c.args.objects.now in
    let prices = c.args.prices.now in
    let m = length prices in
    let i = c.loop-i.i in
    let rows = c.args.problem.now in
    let other = c.in-Some.other in
    let object = c.index-objects-i.is ∙ get_or_default xs i c.index-objects-i.result 0 c.loop-i-test.true ∙ sym (numbered-next xs i 0) in
    let broken = by_number (λ r j. IsFirst (BreaksSlack (pos 1) prices r j) m other) c.args.sense m rows xs
    c.row-row.result.now (i + 1) c.index-objects-i.result c.row-row.ensures.row object c.in-Some.ensures in
    let among = subst (λ k. IsFirst (BreaksSlackOf c.args.sense k rows xs prices (i + 1)) k other) c.requires.priced broken in (
      first_at (IsShort c.args.sense (length c.args.problem.now) rows xs prices) _ i (omega (arith, c.requires.long, c.loop-i-test.true))
          (λ k h s. slack_unbroken (pos 1) prices
          (row_of (map (benefit_row c.args.sense (length c.args.problem.now)) rows) k) (own_object xs k) s.0
          (c.loop-i.invariant k h) s.1) (other, among.here),
      among,
    )

pub loop-i-preserved : goal.loop-i-preserved
loop-i-preserved c =
    let xs = c.args.objects.now in
    let prices = c.args.prices.now in
    let m = length prices in
    let i = c.loop-i.i in
    let rows = c.args.problem.now in
    let object = c.index-objects-i.is ∙ get_or_default xs i c.index-objects-i.result 0 c.loop-i-test.true ∙ sym (numbered-next xs i 0) in
    let here = by_number (λ r j. HasSlack (pos 1) prices r j) c.args.sense m rows xs c.row-row.result.now (i + 1)
    c.index-objects-i.result c.row-row.ensures.row object c.in_default.ensures in
    let among = subst (λ k. HasSlack (pos 1) prices (row_of (map (benefit_row c.args.sense k) rows) (i + 1)) (own_object xs (i + 1))) c.requires.priced here in
    one_more (λ k. HasSlack (pos 1) prices (row_of (map (benefit_row c.args.sense (length c.args.problem.now)) rows)
    k) (own_object xs k)) i c.loop-i.invariant among

pub returns : goal.returns
returns c =
    let xs = c.args.objects.now in
    let benefits = map (benefit_row c.args.sense (length c.args.problem.now)) c.args.problem.now in
    let same : length benefits ≡ length c.args.problem.now = simp length-map in
    let long = same ∙ sym c.requires.long in
    pairs_from (HasSlack (pos 1) c.args.prices.now) benefits xs [] 0 long
    (λ i some last. c.loop-i.invariant i (record { first = some; last = omega (arith, long, last, c.loop-i-test.false) }))
