use Rattle.solver_tests.proofs.by_workers.beside.submit.Goals as goal

pub submit_offer-requires-clause-prepared : goal.submit_offer-requires-clause-prepared
submit_offer-requires-clause-prepared c = (c.args.plain.now.table, c.args.plain.now.version, c.requires.below, c.requires.prepared)
