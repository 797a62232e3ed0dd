use Rattle.std.proofs.Common.{◌∙◌}
use Rattle.auction_tests.proofs.book.calls.submit.Goals as goal

pub offered-requires-clause-table : goal.offered-requires-clause-table
offered-requires-clause-table c = c.requires.below.long ∙ c.spoken_for-person.ensures.long
