use Rattle.auction_command.proofs.program.run_asked.Goals as goal

pub returns-in-Ok-clause-output : goal.returns-in-Ok-clause-output
returns-in-Ok-clause-output g c =
    let done = c.solve_named.ensures.output c.in-Solve.start c.in-Solve.progress c.in-Ok.ensures.ok in
    rw c.in-Solve.is done
