use Rattle.price_log.proofs.Histories.{GoesOn}
use Rattle.auction_tests.proofs.book.logs.raise_times.Given as goal

abbrev pub invariant-loop : goal.invariant-loop
invariant-loop l = GoesOn l.fn.log l.log
