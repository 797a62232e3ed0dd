-- The places of a round that is cut into pieces.
use Rattle.std.specs.Prelude.{◌≡◌, ℕ, ℤ, ◌+◌, ◌<◌, List, IfSome, length, slice_index_or}
use Rattle.scaled_values.specs.Scaled.{ScaledProblem}
use Rattle.bidder.specs.declared.offers.Ask.{Ask}
use Rattle.bidder.specs.Offers.{benefits_at, offer_of}
use Rattle.candidates.specs.Candidates.{AreCandidates}
use Rattle.rounds.specs.declared.offers.Place.{Place}

-- the lists are of the rows of the persons from a place on
abbrev pub ArePlaced : ScaledProblem → List ℤ → List ℕ → ℕ → List Place → Type 0
ArePlaced s prices persons start places =
    (k : ℕ) (d : Place) (e : ℕ) → k < length places →
    IfSome (slice_index_or places k d).list (AreCandidates (benefits_at s (slice_index_or persons (start + k) e)) prices)

-- the offers are those of the persons from a place on
abbrev pub AreFilled : ScaledProblem → List ℤ → Ask → List ℕ → ℕ → List Place → Type 0
AreFilled s prices ask persons start places =
    (k : ℕ) (d : Place) (e : ℕ) → k < length places →
    (slice_index_or places k d).offer ≡ offer_of s prices 0 ask (slice_index_or persons (start + k) e)
