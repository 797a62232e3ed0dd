use Rattle.std.proofs.Common.{ℕ, ◌<◌, ◌≤◌, arith, false, length, subst, sym, ap}
use Rattle.assign_core.specs.Numbered.{IsNumber}
use Rattle.dual_checker.proofs.Places.{at_place}
use Rattle.dual_checker.proofs.HallFirsts.{all_marked, first_unmarked_entry}
use Rattle.dual_checker.proofs.hall_marks.first_unnamed.Goals as goal

pub returns-then-not-named-place : goal.returns-then-not-named-place
returns-then-not-named-place c =
    let m = (length c.args.problem.now) in
    let marks = c.args.named.now in
    let row = c.row-row.result.now in
    let i = c.loop-i.i in
    let lt : i < length row = omega (arith, c.loop-i-test.true) in
    let x : ℕ = c.index-row-i.result.0 in
    let listed = c.row-row.ensures.rule.within i c.index-row-i.result lt in
    let within : IsNumber (length marks) x = rw c.requires.long (subst (IsNumber m) (sym (ap (λ e. e.0) c.index-row-i.is)) listed) in
    let read = at_place marks x c.place.result false within c.place.ensures in
    let unset = c.if-not-named-place.true in
    first_unmarked_entry c.args.problem.now c.args.person m i marks row c.index-row-i.result c.row-row.ensures.row c.row-row.ensures.rule
    lt c.index-row-i.is c.loop-i.invariant (λ m. cc)

pub returns : goal.returns
returns c =
    let end : length c.row-row.result.now ≤ c.loop-i.i = omega (arith, c.loop-i-test.false) in
    all_marked c.args.problem.now c.args.person c.loop-i.i c.args.named.now c.row-row.result.now c.row-row.ensures.row end c.loop-i.invariant
