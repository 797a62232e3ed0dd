use Rattle.std.proofs.Common.{arith, subst}
use Rattle.double_costs.proofs.DoublePairs.{length-rows_of_doubles}
use Rattle.c_calls.specs.doubles.Answers.{IsFound}
use Rattle.c_calls.proofs.Fitting.{few_rise}
use Rattle.c_calls.proofs.doubles.solve.put_answer.Goals as goal

pub put_hall-requires-clause-persons : goal.put_hall-requires-clause-persons
put_hall-requires-clause-persons c =
    let g = c.args.input.now in
    let found = subst (IsFound g) c.in-Hall.is c.requires.answer in
    let proof = found.holds.proof in
    let few = few_rise _ _ proof.persons_rise proof.within in
    let long = length-rows_of_doubles g.m g.n g.costs in
    omega arith

pub put_hall-requires-clause-objects : goal.put_hall-requires-clause-objects
put_hall-requires-clause-objects c =
    let g = c.args.input.now in
    let found = subst (IsFound g) c.in-Hall.is c.requires.answer in
    let proof = found.holds.proof in
    let few = few_rise _ _ proof.persons_rise proof.within in
    let long = length-rows_of_doubles g.m g.n g.costs in
    omega (arith, proof.fewer)
