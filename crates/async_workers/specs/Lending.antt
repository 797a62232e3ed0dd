-- Loans of the book in hand.
use Rattle.std.specs.Borrow.{Lends, MutBor, Fml}
use Rattle.auction_book.specs.Book.{BookData}
use Rattle.auction_book.specs.contracts.book.Book.{the_row as book_row}
use Rattle.async_workers.specs.contracts.place.Held.{the_row as held_row}
use Rattle.async_workers.specs.Desk.{HeldData}

-- the book in hand ends as the last book of the reference, and the offer stays
abbrev pub LendsBook : MutBor HeldData → MutBor BookData → Fml
LendsBook held r = Lends held_row book_row held r (λ b. let h = held.now in record h { book = b })
