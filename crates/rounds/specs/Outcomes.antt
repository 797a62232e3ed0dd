-- The meaning of an outcome.
use Rattle.std.specs.Prelude.{◌≡◌, ◌↔◌, ℕ, ℤ, List, Option, Some, length}
use Rattle.assign_core.specs.Numbered.{IsNumber, numbered}
use Rattle.assign_core.specs.Matching.{owner_of}
use Rattle.assign_core.specs.Outcomes as core
use Rattle.assign_core.specs.declared.outcome.Outcome.{Outcome}
use Rattle.assign_core.specs.declared.outcome.Outcome.TheVariants.{Best, Hall}
use Rattle.scaled_values.specs.Scaled.{ScaledProblem}
use Rattle.hall_refuter.specs.Search.{IsRefuted}
use Rattle.rounds.specs.Plain.{End, Ends, Finished, Halted, opening, run}

-- each of n persons owns its object and no other
pub record IsOwned (owners : List (Option ℕ)) (n : ℕ) (xs : List ℕ) : Type 0 where
  pub long : length xs ≡ n
  pub owned : (i j : ℕ) → IsNumber n i → (numbered xs i 0 ≡ j) ↔ (owner_of owners j ≡ Some i)

-- the outcome of a run with this end: the objects owned with the prices, or the Hall set of the
-- persons that the halted person reaches
abbrev pub IsOutcome : ScaledProblem → End → Outcome → Type 0
IsOutcome s (Finished b) (Best c) = IsOwned b.owners (length s.problem) c.assignment × (c.prices ≡ b.prices)
IsOutcome s (Halted person b) (Hall h) = IsRefuted s.problem b.owners person h
IsOutcome s (Finished b) (Hall h) = ⊥
IsOutcome s (Halted person b) (Best c) = ⊥

-- the outcome of plain rounds that begin at these prices
abbrev pub IsOfRounds : ScaledProblem → List ℤ → Outcome → Type 0
IsOfRounds s prices outcome = (m : ℕ) × (end : End) × (run s m (opening s prices) ≡ Ends end) × IsOutcome s end outcome

-- the outcome is a proof of the problem under its sense
abbrev pub IsProof : ScaledProblem → Outcome → Type 0
IsProof s outcome = core.IsProof s.sense s.problem outcome

-- an optimal assignment if an assignment exists, and a Hall set otherwise
abbrev pub IsDecided : ScaledProblem → Outcome → Type 0
IsDecided s outcome = core.IsDecided s.problem outcome

-- what rounds that begin at these prices give: the outcome of plain rounds, which is a proof, and
-- an assignment exactly if one exists
abbrev pub IsSolvedFrom : ScaledProblem → List ℤ → Outcome → Type 0
IsSolvedFrom s prices outcome = IsOfRounds s prices outcome × IsProof s outcome × IsDecided s outcome
