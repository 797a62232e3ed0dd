use Rattle.std.proofs.Common.{ap, arith, inl, length, refl, rules, subst, sym, IsSome, SFits, w64, ◌∙◌}
use Rattle.std.proofs.lemmas.Int.{to_z-of_z}
use Rattle.assign_core.specs.Rows.{listed_in}
use Rattle.assign_core.proofs.Listed.{length_zip}
use Rattle.bottleneck_checker.specs.Bottleneck.{IsShown}
use Rattle.c_calls.specs.declared.lists.info.Info.{Info}
use Rattle.c_calls.proofs.Fitting.{few_rise}
use Rattle.c_bottleneck.specs.Answers.{IsAnswer}
use Rattle.c_bottleneck.proofs.calls.put_answer.Goals as goal

pub copy_from_slice-requires : goal.copy_from_slice-requires
copy_from_slice-requires c =
    let l = c.args.lists.now in
    let proof = subst (IsAnswer l c.args.budget) c.in-Best.is c.requires.answer in
    let long = length_zip (λ row j. IsSome (listed_in row j)) l.rows c.in-Best.plan.items proof.assigned.listed in
    let same = ap length c.as_slice.ensures.value in
    let room = c.requires.objects in
    omega arith

pub put_short-requires-clause-persons : goal.put_short-requires-clause-persons
put_short-requires-clause-persons c =
    let proof = subst (IsAnswer c.args.lists.now c.args.budget) c.in-Best.is c.requires.answer in
    let few = few_rise _ _ proof.short.persons_rise proof.short.persons_in in
    let room = c.requires.persons in
    omega arith

pub put_short-requires-clause-objects : goal.put_short-requires-clause-objects
put_short-requires-clause-objects c =
    let proof = subst (IsAnswer c.args.lists.now c.args.budget) c.in-Best.is c.requires.answer in
    let few = few_rise _ _ proof.short.persons_rise proof.short.persons_in in
    let fewer = proof.short.fewer in
    let room = c.requires.few in
    omega arith

pub put_short-requires-in-Short-clause-persons : goal.put_short-requires-in-Short-clause-persons
put_short-requires-in-Short-clause-persons c =
    let proof = subst (IsAnswer c.args.lists.now c.args.budget) c.in-Short.is c.requires.answer in
    let few = few_rise _ _ proof.persons_rise proof.within in
    let room = c.requires.persons in
    omega arith

pub put_short-requires-in-Short-clause-objects : goal.put_short-requires-in-Short-clause-objects
put_short-requires-in-Short-clause-objects c =
    let proof = subst (IsAnswer c.args.lists.now c.args.budget) c.in-Short.is c.requires.answer in
    let few = few_rise _ _ proof.persons_rise proof.within in
    let fewer = proof.fewer in
    let room = c.requires.few in
    omega arith

pub returns-in-Best : goal.returns-in-Best
returns-in-Best c =
    let l = c.args.lists.now in
    let worst = c.in-Best.worst in
    let some = c.in-Best.set.persons.items in
    let short = c.in-Best.set.objects.items in
    let answer = subst (IsAnswer l c.args.budget) c.in-Best.is c.requires.answer in
    let f : SFits w64 worst = search rules in
    let plan = c.copy_from_slice.ensures.after ∙ c.as_slice.ensures.value in
    let shown : IsShown l c.copy_from_slice.new.self worst some short = subst (λ xs. IsShown l xs worst some short) (sym plan) answer in
    simp to_z-of_z (inl (record {
      is = refl;
      some = some;
      short = short;
      proof = shown;
      bottleneck = c.short_means_bottleneck.ensures l c.copy_from_slice.new.self worst some short shown;
      persons = c.put_short.ensures.persons;
      few = c.put_short.ensures.few;
      info = ap (λ (i : Info). record i { total = worst }) c.put_short.ensures.info;
    }))
