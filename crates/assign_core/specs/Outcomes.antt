-- Outcomes that carry their own proof.
use Rattle.std.specs.Prelude.{ℕ, List}
use Rattle.assign_core.specs.declared.sense.Sense.{Sense}
use Rattle.assign_core.specs.declared.outcome.Outcome.{Outcome}
use Rattle.assign_core.specs.declared.outcome.Outcome.TheVariants.{Best, Hall}
use Rattle.assign_core.specs.Rows.{Listing}
use Rattle.assign_core.specs.Assignment.{IsAssignment}
use Rattle.assign_core.specs.Slackness.{IsCertificate}
use Rattle.assign_core.specs.Hall.{IsHallSet}

-- a certificate, which proves its assignment optimal under the sense, or a Hall set, which proves
-- that none exists
abbrev pub IsProof : Sense → List Listing → Outcome → Type 0
IsProof sense rows (Best c) = IsCertificate sense rows c.assignment c.prices
IsProof sense rows (Hall h) = IsHallSet rows h.persons h.objects

-- an assignment only where one exists, and a Hall set only where none exists
abbrev pub IsDecided : List Listing → Outcome → Type 0
IsDecided rows (Best c) = (xs : List ℕ) × IsAssignment rows xs
IsDecided rows (Hall h) = (xs : List ℕ) → IsAssignment rows xs → ⊥
