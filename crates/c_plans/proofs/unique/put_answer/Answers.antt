use Rattle.std.proofs.Common.{◌≡◌, pos, true, [], ap, arith, inl, length, refl, rules, subst, sym}
use Rattle.plan_checker.proofs.Reading.{listed_long}
use Rattle.plan_checker.specs.Ranks.{AreRanked}
use Rattle.c_plans.specs.Answers.{IsAnswer}
use Rattle.c_plans.proofs.unique.put_answer.Goals as goal

pub copy_from_slice-requires-in-Other : goal.copy_from_slice-requires-in-Other
copy_from_slice-requires-in-Other c =
    let l = c.args.lists.now in
    let answer = subst (IsAnswer l c.args.objects.now c.args.prices.now) c.in-Other.is c.requires.answer in
    let long = listed_long l.rows c.in-Other.found.items answer.1.proof.assigned.listed in
    let same = ap length c.as_slice-in-Other.ensures.value in
    let room = c.requires.other in
    omega arith

pub returns-in-Only : goal.returns-in-Only
returns-in-Only c =
    let l = c.args.lists.now in
    let xs = c.args.objects.now in
    let prices = c.args.prices.now in
    let found = c.in-Only.found.items in
    let answer = subst (IsAnswer l xs prices) c.in-Only.is c.requires.answer in
    let same : c.copy_from_slice.new.self ≡ found = search rules in
    inl (record {
      is = refl;
      proof = answer.0;
      ranked = subst (λ r. AreRanked true (pos 1) l xs prices r 0 []) (sym same) answer.1;
      only = c.ranks_mean_only.ensures l xs prices found 0 [] c.persons-persons.ensures.rule answer.0 answer.1;
      stays = refl;
    })
