use Rattle.bidder.proofs.Once.{best_two_once}
use Rattle.bidder.proofs.law.best_two_is_determined.Goals as goal

pub returns : goal.returns
returns c = best_two_once
