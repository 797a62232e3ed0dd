use Rattle.std.proofs.Common.{◌≡◌, ◌↔◌, ℕ, ap, arith, inl, length, refl, rules, subst, sym}
use Rattle.assign_core.specs.Numbered.{IsNumber}
use Rattle.group_checker.specs.Groups.{AreGroups, IsInGroup, MayHave}
use Rattle.c_plans.specs.GroupAnswers.{IsGroupAnswer}
use Rattle.c_plans.proofs.group_plan.put_groups.Goals as goal

pub copy_from_slice-requires : goal.copy_from_slice-requires
copy_from_slice-requires c =
    let l = c.args.lists.now in
    let answer = subst (IsGroupAnswer l c.args.objects.now c.args.prices.now) c.in-Joined.is c.requires.answer in
    let long = answer.1.long in
    let same = ap length c.as_slice.ensures.value in
    let room = c.requires.groups in
    omega arith

pub returns-in-Joined : goal.returns-in-Joined
returns-in-Joined c =
    let l = c.args.lists.now in
    let xs = c.args.objects.now in
    let prices = c.args.prices.now in
    let found = c.in-Joined.found.items in
    let answer = subst (IsGroupAnswer l xs prices) c.in-Joined.is c.requires.answer in
    let same : c.copy_from_slice.new.self ≡ found = search rules in
    inl (record {
      is = refl;
      proof = answer.0;
      best = c.exact_means_best.ensures l xs prices c.persons-persons.ensures.rule answer.0;
      groups = subst (AreGroups l xs prices) (sym same) answer.1;
      changes = λ i j number.
          subst (λ g. MayHave l i j ↔ IsInGroup l xs prices g i j) (sym same)
          (c.groups_mean_changes.ensures l xs prices found c.persons-persons.ensures.rule answer.0 answer.1 i j number);
      stays = refl;
    })
