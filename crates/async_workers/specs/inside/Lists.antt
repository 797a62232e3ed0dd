-- Candidates at a desk.
use Rattle.std.specs.Prelude.{ℤ, ◌<◌, List, Option, IfSome}
use Rattle.scaled_values.specs.Scaled.{ScaledProblem}
use Rattle.bidder.specs.Offers.{benefits_at}
use Rattle.candidates.specs.Candidates.{AreCandidates}
use Rattle.async_workers.specs.declared.place.listing.Listed.{Listed}

-- the person's candidates under this table, if there are any
abbrev pub IsListed : ScaledProblem → List ℤ → Option Listed → Type 0
IsListed s table listed = IfSome listed (λ l. (0 < l.person) × AreCandidates (benefits_at s l.person) table l.list)
