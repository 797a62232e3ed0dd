use Rattle.std.proofs.Common.{◌≡◌, ℕ, ◌<◌, length, sym, ◌∙◌, subst, arith}
use mathlib.Core.Bool.{true≢false}
use Rattle.double_checker.specs.inside.Halls.{AreAllowed}
use Rattle.double_checker.proofs.HallProofs.{hall_allowed, hall_from, hall_rows}
use Rattle.double_checker.proofs.hall.is_hall_of_rising.Goals as goal

pub returns-then-not-are_rows_named : goal.returns-then-not-are_rows_named
returns-then-not-are_rows_named c =
    let a = c.args in
    let wide : length c.mark_each.new.named ≡ length c.args.named.now = c.mark_each.auto.named ∙ c.clear.auto.marks in (
      (λ e. absurd (true≢false (sym e))),
      (λ h. absurd (true≢false (sym (c.are_rows_named.ensures.1 (hall_rows a.n (length a.named.now)
          a.costs.now a.persons.now a.objects.now c.mark_each.new.named c.requires.long wide c.mark_each.ensures h))
          ∙ c.if-not-are_rows_named.true))),
    )

pub returns : goal.returns
returns c =
    let a = c.args in
    let wide : length c.mark_each.new.named ≡ length c.args.named.now = c.mark_each.auto.named ∙ c.clear.auto.marks in
    let test = c.if-objects-persons.false in
    let fewer : length c.args.objects.now < length c.args.persons.now = omega arith in (
      (λ t. hall_from a.n (length a.named.now) a.costs.now a.persons.now a.objects.now c.mark_each.new.named
          c.requires.long wide c.requires.persons_within c.requires.objects_within c.requires.persons_rise
          c.requires.objects_rise
          fewer c.mark_each.ensures (c.are_rows_named.ensures.0 c.if-not-are_rows_named.false)
          (subst (λ (q : ℕ). AreAllowed q c.args.costs.now c.args.persons.now c.args.objects.now
          (length c.args.objects.now)) wide (c.are_listed.ensures.0 t))),
      (λ h. c.are_listed.ensures.1 (subst (λ (q : ℕ). AreAllowed q c.args.costs.now c.args.persons.now
          c.args.objects.now (length c.args.objects.now)) (sym wide)
          (hall_allowed a.n (length a.named.now) a.costs.now a.persons.now a.objects.now c.requires.long h))),
    )
