use Rattle.std.proofs.Common.{sym}
use Rattle.auction_tests.proofs.bidding.answers.Goals as goal

pub best_two-requires : goal.best_two-requires
best_two-requires c = rw (sym c.requires.long) (rw c.as_slice.ensures.value c.in_ok-row.ensures)
