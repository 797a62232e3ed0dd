use Rattle.std.proofs.Common.{◌≡◌, length}
use Rattle.auction_book.proofs.Answering.{IsInverse}
use Rattle.auction_book.proofs.book.answering.objects_of.Given as goal

abbrev pub invariant-loop-place : goal.invariant-loop-place
invariant-loop-place l = record {
  long : length l.objects.items ≡ length l.owners;
  inverse : IsInverse l.owners l.objects.items l.place;
}
