use Rattle.std.proofs.Common.{arith, length, ap, subst}
use Rattle.std.specs.Prelude.{IsSome}
use Rattle.assign_core.specs.Rows.{listed_in}
use Rattle.assign_core.proofs.Listed.{length_zip}
use Rattle.c_calls.proofs.Fitting.{few_rise}
use Rattle.c_wide.specs.fewest.Answers.{IsFewestAnswer}
use Rattle.c_wide.proofs.fewest.solve.put_fewest.Goals as goal

pub copy_from_slice-requires : goal.copy_from_slice-requires
copy_from_slice-requires c =
    let l = c.args.lists.now in
    let answer = subst (IsFewestAnswer l c.args.kept.now) c.in-Best.is c.requires.answer in
    let long = length_zip (λ row j. IsSome (listed_in row j)) l.rows _ answer.fewest.best.assigned.listed in
    let same = ap length c.as_slice.ensures.value in
    let room = c.requires.objects in
    omega arith

pub put_hall-requires-clause-persons : goal.put_hall-requires-clause-persons
put_hall-requires-clause-persons c =
    let proof = subst (IsFewestAnswer c.args.lists.now c.args.kept.now) c.in-Hall.is c.requires.answer in
    let few = few_rise _ _ proof.persons_rise proof.within in
    omega arith

pub put_hall-requires-clause-objects : goal.put_hall-requires-clause-objects
put_hall-requires-clause-objects c =
    let proof = subst (IsFewestAnswer c.args.lists.now c.args.kept.now) c.in-Hall.is c.requires.answer in
    let few = few_rise _ _ proof.persons_rise proof.within in
    omega (arith, proof.fewer)
