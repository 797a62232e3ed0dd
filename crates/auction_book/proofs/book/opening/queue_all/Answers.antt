use Rattle.std.proofs.Common.{◌≡◌, length, ap, ◌∙◌, arith}
use Rattle.auction_book.proofs.Opening.{length-persons}
use Rattle.auction_book.proofs.book.opening.queue_all.Goals as goal

pub push_back_reserved-requires : goal.push_back_reserved-requires
push_back_reserved-requires c =
    let e : length c.loop-i.queue.items ≡ c.loop-i.i = ap length c.loop-i.invariant.queue ∙ length-persons c.loop-i.i in
    let ok = c.loop-i.queue.ok in
    let cap = c.loop-i.invariant.capacity in
    let room = c.requires.room in
    let t = c.loop-i-test.true in
    omega arith
