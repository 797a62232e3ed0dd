use Rattle.rounds.proofs.Alike.{like_offer}
use Rattle.rounds.proofs.law.like_persons_share_an_offer.Goals as goal

pub returns : goal.returns
returns c = like_offer
