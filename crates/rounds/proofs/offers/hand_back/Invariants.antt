use Rattle.std.proofs.Common.{◌≡◌, ◌≤◌, ℕ, ℤ, List, ◌<◌, get_or}
use Rattle.scaled_values.specs.Scaled.{ScaledProblem}
use Rattle.bidder.specs.declared.offers.Offer.{Offer}
use Rattle.candidates.specs.Candidates.{HaveCandidates}
use Rattle.rounds.specs.declared.offers.Place.{Place}
use Rattle.rounds.specs.inside.Places.{ArePlaced}
use Rattle.rounds.proofs.offers.hand_back.Given as goal

abbrev pub invariant-loop-i : goal.invariant-loop-i
invariant-loop-i l = record {
  rest : (k : ℕ) (d : Place) → l.i ≤ k → get_or l.places k d ≡ get_or l.fn.places k d;
  offers : (k : ℕ) (d : Offer) (e : Place) → k < l.i → get_or l.offers k d ≡ (get_or l.fn.places k e).offer;
  lists : (s : ScaledProblem) (prices : List ℤ) → HaveCandidates s prices l.fn.lists → ArePlaced s prices l.persons 0 l.fn.places → HaveCandidates s prices l.lists;
}
