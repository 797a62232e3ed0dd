use Rattle.std.proofs.Common.{◌≡◌, drop, fold}
use Rattle.std.specs.Int.{int_max}
use Rattle.auction_book.proofs.book.opening.greatest.Given as goal

abbrev pub invariant-loop-price : goal.invariant-loop-price
invariant-loop-price l = fold int_max l.greatest (drop l.price-index l.rest) ≡ fold int_max l.initial.greatest l.rest
