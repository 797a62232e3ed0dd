use Rattle.std.proofs.Common.{◌≡◌, ◌+◌, IsTrue, ap, arith, drop, length, subst, sym, ◌∙◌}
use Rattle.std.specs.List.{All}
use Rattle.std.proofs.lemmas.List.{take_at}
use Rattle.parallel_checker.specs.Persons.{IsSlackPerson}
use Rattle.parallel_checker.proofs.Persons.{all_marked}
use Rattle.parallel_checker.proofs.slack.all_slack.Goals as goal

pub returns : goal.returns
returns g c =
    let marks = c.par_for_each_mut.new.s in
    let P = IsSlackPerson c.args.sense c.args.problem.now c.args.objects.now c.args.prices.now in
    let first = c.as_mut_slice.result.now in
    let size : length c.as_mut_slice.result.now ≡ length c.args.problem.now =
    ap length c.as_mut_slice.ensures.value ∙ sym c.in_ok-marks.marks.ok.0 ∙ c.in_ok-marks.ensures.len ∙ c.n.ensures.count in
    let long : length c.par_for_each_mut.new.s ≡ length c.args.problem.now = c.par_for_each_mut.auto.s ∙ size in
    let whole = take_at c.par_for_each_mut.new.s (drop (length c.par_for_each_mut.new.s) c.in_ok-marks.marks.items)
    c.in_ok-marks.marks.len (c.par_for_each_mut.auto.s ∙ ap length c.as_mut_slice.ensures.value ∙ sym c.in_ok-marks.marks.ok.0) in
    let end = c.as_slice.ensures.value ∙ whole in
    let every = all_marked P marks (length c.args.problem.now) long (λ k d lt.
    let at = (c.par_for_each_mut.ensures k d (omega (arith, lt, size))).1 in
    subst (λ b. (IsTrue b → P (k + 1)) × (P (k + 1) → IsTrue b)) at.left at.call) in (
      λ t. every.0 (subst (All IsTrue) end (c.all_set.ensures.0 t)),
      λ h. c.all_set.ensures.1 (subst (All IsTrue) (sym end) (every.1 h)),
    )
