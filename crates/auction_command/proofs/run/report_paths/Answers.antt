use Rattle.command_line.specs.declared.words.Method.TheVariants.{Paths}
use Rattle.auction_command.specs.Solve.{solver_of}
use Rattle.auction_command.proofs.Settled.{reports, solution_of}
use Rattle.auction_command.proofs.run.report_paths.Goals as goal

pub returns-in-Ok : goal.returns-in-Ok
returns-in-Ok g c =
    let outcome = c.in-Ok.outcome in
    let rows = c.args.problem.now in
    let solver = solver_of Paths c.args.options in
    reports solver rows c.args.prices.now outcome _ _ _
    (solution_of solver rows c.args.prices.now outcome c.n-persons.ensures.problem c.in-Ok.ensures.decided c.in-Ok.ensures.proof) c.put_report.ensures
