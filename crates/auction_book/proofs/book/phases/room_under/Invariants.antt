use Rattle.std.proofs.Common.{◌≡◌, pos, ◌+ℤ◌, ◌*◌, ◌≤◌, ◌^◌, drop}
use Rattle.auction_book.specs.Book.{room_under}
use Rattle.auction_book.proofs.book.phases.room_under.Given as goal

abbrev pub invariant-loop-price : goal.invariant-loop-price
invariant-loop-price l = record {
  value : (pos l.room +ℤ room_under l.top (drop l.price-index l.prices)) ≡ room_under l.top l.prices;
  most : l.room ≤ l.price-index * 10 ^ 22;
}
