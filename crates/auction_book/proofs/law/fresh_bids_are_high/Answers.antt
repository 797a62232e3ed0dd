use Rattle.bidder.proofs.Sound.{bid_high}
use Rattle.auction_book.specs.Book.{prices_of}
use Rattle.auction_book.proofs.law.fresh_bids_are_high.Goals as goal

pub returns : goal.returns
returns c = λ b bid is. bid_high b.base (prices_of b) b.ask bid is
