use Rattle.assign_core.proofs.Matchings.{below_itself}
use Rattle.auction_book.specs.Book.{prices_of}
use Rattle.auction_tests.proofs.book.listed.seen_lists.Goals as goal

pub put_list-requires-clause-list : goal.put_list-requires-clause-list
put_list-requires-clause-list c =
    let q = prices_of c.keep_lists.new.self in
    rw (c.take_list-3.ensures.book, c.in-Some.ensures.book) (q, below_itself q, c.in-Some.ensures.list)
