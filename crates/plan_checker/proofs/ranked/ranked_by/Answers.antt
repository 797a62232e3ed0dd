use Rattle.std.proofs.Common.{◌∙◌, ap, length, sym, subst}
use mathlib.Core.Bool.{true≢false}
use Rattle.std.specs.List.{All}
use Rattle.std.proofs.lemmas.List.{length-replicate}
use Rattle.std.proofs.lemmas.List.Elements.{All-from_recursion}
use Rattle.assign_core.specs.Numbered.{IsNumber}
use Rattle.assign_core.proofs.Listed.{objects_within}
use Rattle.dual_checker.proofs.HallMarking.{just_added}
use Rattle.plan_checker.specs.inside.Rises.{IsPlan}
use Rattle.plan_checker.proofs.Reading.{free_same}
use Rattle.plan_checker.proofs.ranked.ranked_by.Goals as goal

pub mark_numbers-requires : goal.mark_numbers-requires
mark_numbers-requires c =
    let l = c.args.lists.now in
    let xs = c.args.plan.objects.now in
    let long = ap length c.requires.owned ∙ length-replicate l.m _ in
    subst (λ k. All (IsNumber k) xs) (sym long) (All-from_recursion (IsNumber l.m) xs
    (objects_within l.m l.rows xs c.persons-persons.ensures.rule.within c.requires.optimum.assigned.listed))

pub are_free-requires-clause-plan : goal.are_free-requires-clause-plan
are_free-requires-clause-plan c =
    let l = c.args.lists.now in
    let long = c.mark_numbers.auto.marks ∙ ap length c.requires.owned ∙ length-replicate l.m _ in
    (length l.rows, subst (λ m. IsPlan (length l.rows) m c.args.plan) (sym long) c.requires.plan)

pub returns-then-not-are_free : goal.returns-then-not-are_free
returns-then-not-are_free c =
    let l = c.args.lists.now in
    let owned = c.mark_numbers.new.marks in
    let long = c.mark_numbers.auto.marks ∙ ap length c.requires.owned ∙ length-replicate l.m _ in
    let marks = just_added l.m c.args.owned.now owned _ c.requires.owned c.mark_numbers.ensures in
    let same = free_same (length l.rows) l.m c.args.plan.objects.now owned c.args.plan long c.requires.plan marks in (
      (λ e. absurd (true≢false (sym e))),
      (λ r. absurd (true≢false (sym (c.are_free.ensures.1 (same.1 (record { in_range = r.in_range; unowned = r.unowned; unpriced = r.priced.free; free = r.free }))) ∙ c.if-not-are_free.true))),
    )

pub returns : goal.returns
returns c =
    let l = c.args.lists.now in
    let owned = c.mark_numbers.new.marks in
    let long = c.mark_numbers.auto.marks ∙ ap length c.requires.owned ∙ length-replicate l.m _ in
    let marks = just_added l.m c.args.owned.now owned _ c.requires.owned c.mark_numbers.ensures in
    let same = free_same (length l.rows) l.m c.args.plan.objects.now owned c.args.plan long c.requires.plan marks in
    let free = same.0 (c.are_free.ensures.0 c.if-not-are_free.false) in (
      (λ yes.
          let rise = c.all_rise.ensures.0 yes in
          record {
            long = c.requires.plan.ranks_long;
            in_range = free.in_range;
            priced = record { long = c.requires.plan.others_long; in_range = c.requires.plan.others_in; free = free.unpriced };
            proved = rise.0;
            rise = rise.1;
            unowned = free.unowned;
            free = free.free;
          }),
      (λ r. c.all_rise.ensures.1 (r.proved, r.rise)),
    )
