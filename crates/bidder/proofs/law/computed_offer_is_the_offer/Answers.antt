use Rattle.scaled_values.proofs.RowFacts.{benefit_row_is}
use Rattle.bidder.proofs.Sound.{offer_is}
use Rattle.bidder.proofs.law.computed_offer_is_the_offer.Goals as goal

pub returns : goal.returns
returns c = λ s prices version ask person problem number. offer_is s prices version ask person (benefit_row_is s person problem number).rising
