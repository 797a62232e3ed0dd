use Rattle.bidder.proofs.Sound.{offer_once}
use Rattle.bidder.proofs.law.offer_is_determined.Goals as goal

pub returns : goal.returns
returns c = offer_once
