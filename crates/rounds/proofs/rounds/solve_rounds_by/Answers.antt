use Rattle.std.specs.Arc.{arc_value}
use Rattle.scaled_values.specs.Scaled.{ScaledProblem}
use Rattle.assign_core.proofs.HallSets.{decides}
use Rattle.rounds.proofs.rounds.solve_rounds_by.Goals as goal

pub returns-clause-solved : goal.returns-clause-solved
returns-clause-solved g c =
    let s : ScaledProblem = arc_value c.args.scaled in
    let proof = c.in_ok-run_rounds.ensures.proof in
    (c.in_ok-run_rounds.ensures.rounds, proof, decides s.sense s.problem c.in_ok-run_rounds.field-0 proof)
