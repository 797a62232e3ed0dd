use Rattle.std.proofs.Common.{ℕ, pos, length, sym, get_or, ◌<◌, arith, ap, subst, ◌∙◌, IsSome}
use Rattle.std.proofs.lemmas.List.{get_or_default}
use Rattle.assign_core.specs.Numbered.{IsNumber}
use Rattle.assign_core.specs.Rows.{listed_in}
use Rattle.assign_core.proofs.NumberedLemmas.{number_within}
use Rattle.dual_checker.specs.HallMarks.{AddsMarks}
use Rattle.dual_checker.proofs.HallFirsts.{row_places}
use Rattle.dual_checker.proofs.HallMarking.{adds_item, adds_same}
use Rattle.dual_checker.proofs.hall_marks.mark_row.Goals as goal

pub loop-i-preserved : goal.loop-i-preserved
loop-i-preserved c =
    let row = c.row-row.result.now in
    let i = c.loop-i.i in
    let lt : i < length row = omega (arith, c.loop-i-test.true) in
    let x : ℕ = c.index-row-i.result.0 in
    let at = ap (λ e. e.0) (c.index-row-i.is ∙ get_or_default row i c.index-row-i.result (0, pos 0) lt) in
    let listed = subst (IsNumber (length c.args.problem.now)) (sym at) (c.row-row.ensures.rule.within i (0, pos 0) lt) in
    let within = number_within _ _ x (omega (arith, c.loop-i.auto.marks, c.requires.long)) listed in
    adds_item (λ k. (get_or row k (0, pos 0)).0) i x c.place.result c.args.marks.now c.loop-i.marks at within c.place.ensures c.loop-i.invariant

pub returns : goal.returns
returns c =
    let row = c.row-row.result.now in
    let rising = c.row-row.ensures.rule.rising in
    subst (λ q. AddsMarks c.args.marks.now (λ j. IsSome (listed_in q j)) c.loop-i.marks) c.row-row.ensures.row
    (adds_same _ (λ j. IsSome (listed_in row j)) c.args.marks.now c.loop-i.marks
    (λ j. row_places row c.loop-i.i j rising (omega (arith, c.loop-i-test.false))) c.loop-i.invariant)
