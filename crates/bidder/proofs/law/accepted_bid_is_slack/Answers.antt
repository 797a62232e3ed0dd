use Rattle.bidder.proofs.Accepted.{accepted_slack}
use Rattle.bidder.proofs.law.accepted_bid_is_slack.Goals as goal

pub returns : goal.returns
returns c = accepted_slack
