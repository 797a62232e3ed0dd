-- What a proof decides.
use Rattle.assign_core.proofs.Duality.{best_by_slack}
use Rattle.assign_core.proofs.HallSets.{no_assignment}
use Rattle.assign_core.specs.declared.outcome.Outcome.{Outcome}
use Rattle.assign_core.specs.declared.outcome.Outcome.TheVariants.{Best, Hall}
use Rattle.assign_core.specs.declared.sense.Sense.{Sense}
use Rattle.assign_core.specs.Outcomes as core
use Rattle.assign_core.specs.Rows.{Listing, IsProblem}
use Rattle.report.specs.Lines.{report_text}
use Rattle.report.specs.Outcomes.{outcome_report}
use Rattle.rounds.specs.Outcomes.{IsProof}
use Rattle.scaled_values.specs.Scaled.{ScaledProblem}
use Rattle.auction_command.specs.declared.run.CliFault.{CliFault}
use Rattle.auction_command.specs.declared.run.CliFault.TheVariants.{Write}
use Rattle.auction_command.specs.declared.run.Ended.{Ended}
use Rattle.auction_command.specs.declared.run.Solver.{Solver}
use Rattle.auction_command.specs.inside.Solve.{Puts, Reports}
use Rattle.auction_command.specs.Solve.{IsOutcomeBy, IsSettled, IsSolution, end_of, problem_under}
use Rattle.std.proofs.Common.{◌≡◌, ℕ, ℤ, List, Option, Result, Ok, Err, refl, subst}

-- a certificate's assignment is optimal, and with a Hall set none exists
pub settled : (sense : Sense) (rows : List Listing) (outcome : Outcome) → IsProblem rows → core.IsProof sense rows outcome → IsSettled sense rows outcome
settled sense rows (Best c) problem proof = best_by_slack sense rows c.assignment c.prices problem proof.assigned proof.slack
settled sense rows (Hall h) problem proof = λ xs a. no_assignment rows h.persons h.objects xs proof a

-- what a method comes to, where it is a proof
pub solution_of : (solver : Solver) (rows : List Listing) (prices : List ℤ) (outcome : Outcome) → IsProblem rows →
    IsOutcomeBy solver.method solver.options (problem_under solver.options.sense rows) prices outcome →
    IsProof (problem_under solver.options.sense rows) outcome →
    IsSolution solver rows prices outcome
solution_of solver rows prices outcome problem reached proof =
    record { reached = reached; proof = proof; settled = settled solver.options.sense rows outcome problem proof }

-- the report on it
pub reports : (solver : Solver) (rows : List Listing) (prices : List ℤ) (outcome : Outcome) (old new : Option (List ℕ)) (result : Result Ended CliFault) →
    IsSolution solver rows prices outcome → Puts solver.options rows outcome old new result → Reports solver rows prices old new result
reports solver rows prices outcome old new (Ok ended) s p = (
  report_text (outcome_report rows solver.options.sense outcome solver.options.prices),
  record { outcome = outcome; solution = s; end = p.0; report = refl },
  p.1,
)
reports solver rows prices outcome old new (Err Write) s p = (
  end_of outcome,
  report_text (outcome_report rows solver.options.sense outcome solver.options.prices),
  record { outcome = outcome; solution = s; end = refl; report = refl },
  p,
)
reports solver rows prices outcome old new (Err fault) s p = absurd p

-- the same of a problem with benefits
pub reports_on : (solver : Solver) (rows : List Listing) (prices : List ℤ) (s : ScaledProblem) (outcome : Outcome)
    (old new : Option (List ℕ)) (result : Result Ended CliFault) →
    s ≡ problem_under solver.options.sense rows → IsProblem s.problem → IsOutcomeBy solver.method solver.options s prices outcome → IsProof s outcome →
    Puts solver.options s.problem outcome old new result → Reports solver rows prices old new result
reports_on solver rows prices s outcome old new result is problem reached proof puts =
    let given : IsProblem rows = subst (λ (t : ScaledProblem). IsProblem t.problem) is problem in
    let came = subst (λ (t : ScaledProblem). IsOutcomeBy solver.method solver.options t prices outcome) is reached in
    let proved = subst (λ (t : ScaledProblem). IsProof t outcome) is proof in
    let put = subst (λ (t : ScaledProblem). Puts solver.options t.problem outcome old new result) is puts in
    reports solver rows prices outcome old new result (solution_of solver rows prices outcome given came proved) put
