use Rattle.solver_tests.proofs.by_workers.scripts.closed.Goals as goal

pub close_place-requires-clause-ready : goal.close_place-requires-clause-ready
close_place-requires-clause-ready g c = λ k d lt. (c.requires k d lt).ready
