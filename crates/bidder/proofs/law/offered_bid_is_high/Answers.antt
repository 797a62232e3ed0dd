use Rattle.bidder.proofs.Sound.{bid_high}
use Rattle.bidder.proofs.law.offered_bid_is_high.Goals as goal

pub returns : goal.returns
returns c = bid_high
