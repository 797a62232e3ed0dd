use Rattle.std.proofs.Common.{false, true}
use Rattle.auction_book.proofs.Accepting.{accepted_follows, released_follows}
use Rattle.auction_book.proofs.Following.{caught_up_follows, claimed_follows, follows_itself, follows_through}
use Rattle.auction_book.proofs.Following.{given_up_follows, phased_follows, recorded_follows, stop_follows}
use Rattle.auction_book.proofs.law.changes_follow.Goals as goal

pub returns : goal.returns
returns c = record {
  itself = follows_itself;
  through = follows_through;
  claimed = claimed_follows;
  accepted = accepted_follows;
  released = released_follows;
  given_up = given_up_follows;
  recorded = recorded_follows;
  caught_up = caught_up_follows;
  phased = phased_follows;
  stopped = λ b worker. stop_follows b worker true;
  resumed = λ b worker. stop_follows b worker false;
}
