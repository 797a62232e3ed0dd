use Rattle.std.specs.List.{All}
use Rattle.assign_core.specs.Prices.{IsBelow}
use Rattle.price_log.specs.History.{IsEarlier}
use Rattle.auction_book.specs.Book.{prices_of}
use Rattle.auction_tests.proofs.book.calls.open_desks.Given as goal

abbrev pub invariant-loop : goal.invariant-loop
invariant-loop l = record {
  below : All (λ d. IsBelow d.table (prices_of l.book)) l.desks.items;
  earlier : All (λ d. IsEarlier l.book.log d.table d.version) l.desks.items;
}
