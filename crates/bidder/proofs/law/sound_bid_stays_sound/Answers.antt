use Rattle.bidder.proofs.Sound.{sound_above}
use Rattle.bidder.proofs.law.sound_bid_stays_sound.Goals as goal

pub returns : goal.returns
returns c = sound_above
