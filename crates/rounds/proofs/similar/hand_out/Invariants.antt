use Rattle.std.proofs.Common.{◌≡◌, ℕ, ◌<◌, length, get_or}
use Rattle.bidder.specs.declared.offers.Offer.{Offer}
use Rattle.rounds.specs.Offers.{named}
use Rattle.rounds.proofs.similar.hand_out.Given as goal

abbrev pub invariant-loop-i : goal.invariant-loop-i
invariant-loop-i l = (length l.offers.items ≡ l.i) × ((k : ℕ) (d e : Offer) (f g : ℕ) → k < l.i →
    get_or l.offers.items k d ≡ named (get_or l.persons k f) (get_or l.made (get_or l.places k g) e))
