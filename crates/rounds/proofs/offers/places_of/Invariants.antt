use Rattle.std.proofs.Common.{◌≡◌, ℤ, List, vec_len}
use Rattle.scaled_values.specs.Scaled.{ScaledProblem}
use Rattle.candidates.specs.Candidates.{HaveCandidates}
use Rattle.rounds.specs.inside.Places.{ArePlaced}
use Rattle.rounds.proofs.offers.places_of.Given as goal

abbrev pub invariant-loop-i : goal.invariant-loop-i
invariant-loop-i l = record {
  long : vec_len l.places ≡ l.i;
  lists : (s : ScaledProblem) (prices : List ℤ) → HaveCandidates s prices l.fn.lists → HaveCandidates s prices l.lists;
  placed : (s : ScaledProblem) (prices : List ℤ) → HaveCandidates s prices l.fn.lists → ArePlaced s prices l.persons 0 l.places.items;
}
