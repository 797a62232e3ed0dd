use Rattle.std.proofs.Common.{◌≡◌, drop, fold, min}
use Rattle.auction_book.proofs.book.catching_up.least_of.Given as goal

abbrev pub invariant-loop-version : goal.invariant-loop-version
invariant-loop-version l = fold min l.least (drop l.version-index l.taken) ≡ fold min l.fn.now l.taken
