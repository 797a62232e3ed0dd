use Rattle.bidder.proofs.Sound.{bid_sound}
use Rattle.bidder.proofs.law.offered_bid_is_sound.Goals as goal

pub returns : goal.returns
returns c = bid_sound
