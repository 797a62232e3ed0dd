use Rattle.std.proofs.Common.{◌≡◌, ℕ, ◌+◌, ◌<◌, get_or}
use Rattle.bidder.specs.Offers.{offer_of}
use Rattle.rounds.specs.declared.offers.Place.{Place}
use Rattle.rounds.specs.inside.Places.{ArePlaced}
use Rattle.rounds.proofs.offers.fill_from.Given as goal

abbrev pub invariant-loop-i : goal.invariant-loop-i
invariant-loop-i l = record {
  lists : ArePlaced l.scaled l.prices l.persons l.start l.places;
  offers : (k : ℕ) (d : Place) (e : ℕ) → k < l.i → (get_or l.places k d).offer ≡ offer_of l.scaled l.prices 0 l.ask (get_or l.persons (l.start + k) e);
}
