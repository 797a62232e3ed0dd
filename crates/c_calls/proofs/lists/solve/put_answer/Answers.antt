use Rattle.std.proofs.Common.{arith, subst}
use Rattle.list_solver.specs.Found.{IsFound}
use Rattle.c_calls.proofs.Fitting.{few_rise}
use Rattle.c_calls.proofs.lists.solve.put_answer.Goals as goal

pub put_hall-requires-clause-persons : goal.put_hall-requires-clause-persons
put_hall-requires-clause-persons c =
    let proof = subst (IsFound c.args.lists.now c.args.state.now) c.in-Hall.is c.requires.found in
    let few = few_rise _ _ proof.persons_rise proof.within in
    omega arith

pub put_hall-requires-clause-objects : goal.put_hall-requires-clause-objects
put_hall-requires-clause-objects c =
    let proof = subst (IsFound c.args.lists.now c.args.state.now) c.in-Hall.is c.requires.found in
    let few = few_rise _ _ proof.persons_rise proof.within in
    omega (arith, proof.fewer)
