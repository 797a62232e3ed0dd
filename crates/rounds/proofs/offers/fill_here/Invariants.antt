use Rattle.std.proofs.Common.{◌≡◌, ℕ, ◌<◌, get_or}
use Rattle.bidder.specs.declared.offers.Offer.{Offer}
use Rattle.bidder.specs.Offers.{offer_of}
use Rattle.candidates.specs.Candidates.{HaveCandidates}
use Rattle.rounds.proofs.offers.fill_here.Given as goal

abbrev pub invariant-loop-i : goal.invariant-loop-i
invariant-loop-i l = record {
  lists : HaveCandidates l.scaled l.prices l.lists;
  offers : (k : ℕ) (d : Offer) (e : ℕ) → k < l.i → get_or l.offers k d ≡ offer_of l.scaled l.prices 0 l.ask (get_or l.persons k e);
}
