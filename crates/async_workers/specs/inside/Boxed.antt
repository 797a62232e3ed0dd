-- Loans of boxed books.
use Rattle.std.specs.Borrow.{Lends, MutBor, Fml}
use Rattle.auction_book.specs.Book.{BookData}
use Rattle.auction_book.specs.contracts.book.Book.{the_row as book_row}
use Rattle.async_workers.specs.contracts.boxed.BoxedBook.{the_row as boxed_row}

-- the box ends with the last book of the reference
abbrev pub LendsBoxed : MutBor BookData → MutBor BookData → Fml
LendsBoxed boxed r = Lends boxed_row book_row boxed r (λ b. b)
