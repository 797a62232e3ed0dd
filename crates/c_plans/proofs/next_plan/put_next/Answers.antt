use Rattle.std.proofs.Common.{ap, arith, length, subst}
use Rattle.plan_checker.proofs.Reading.{listed_long}
use Rattle.c_plans.specs.NextAnswers.{IsNextAnswer}
use Rattle.c_plans.proofs.next_plan.put_next.Goals as goal

pub copy_from_slice-requires : goal.copy_from_slice-requires
copy_from_slice-requires c =
    let l = c.args.lists.now in
    let answer = subst (IsNextAnswer l c.args.objects.now c.args.prices.now) c.in-Another.is c.requires.answer in
    let long = listed_long l.rows c.in-Another.found.items answer.1.next.assigned.listed in
    let same = ap length c.as_slice.ensures.value in
    let room = c.requires.other in
    omega arith
