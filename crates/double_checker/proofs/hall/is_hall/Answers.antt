use Rattle.std.proofs.Common.{ℕ, ◌↔◌, IsTrue, sym, ◌∙◌, subst}
use mathlib.Core.Bool.{true≢false}
use Rattle.assign_core.specs.Hall.{IsHallSet}
use Rattle.double_costs.specs.DoubleRows.{rows_of_doubles}
use Rattle.double_checker.proofs.HallProofs.{objects_in, persons_in}
use Rattle.double_checker.proofs.hall.is_hall.Goals as goal

pub returns-then-not-are_within : goal.returns-then-not-are_within
returns-then-not-are_within c =
    let a = c.args in (
      (λ e. absurd (true≢false (sym e))),
      (λ h. absurd
          (true≢false (sym (c.are_within.ensures.1 (persons_in a.n a.m a.costs.now a.persons.now a.objects.now h))
          ∙ c.if-not-are_within.true))),
    )

pub returns-then-not-are_within-2 : goal.returns-then-not-are_within-2
returns-then-not-are_within-2 c =
    let a = c.args in (
      (λ e. absurd (true≢false (sym e))),
      (λ h. absurd (true≢false (sym (c.are_within-2.ensures.1
          (objects_in a.n a.m a.costs.now a.persons.now a.objects.now c.requires.long h)) ∙
          c.if-not-are_within-2.true))),
    )

pub returns : goal.returns
returns c =
    subst (λ (q : ℕ). (IsTrue c.is_hall_of_rising.result ↔ IsHallSet (rows_of_doubles q c.args.n c.args.costs.now)
    c.args.persons.now c.args.objects.now))
    c.requires.named c.is_hall_of_rising.ensures
