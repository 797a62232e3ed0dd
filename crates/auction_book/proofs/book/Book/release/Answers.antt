use Rattle.std.proofs.Common.{◌<◌, length, sym, subst, arith}
use Rattle.auction_book.specs.Book.{BookData}
use Rattle.auction_book.specs.Free.{IsFree}
use Rattle.auction_book.proofs.Rooms.{room_in_queue}
use Rattle.auction_book.proofs.book.Book.release.Goals as goal

pub requeue-requires : goal.requeue-requires
requeue-requires c =
    let free : IsFree c.args.self.now = subst IsFree c.self.view_is c.self.invariant.3 in
    let room = subst (λ (b : BookData). length b.queue < length b.owners) (sym c.self.view_is)
    (room_in_queue c.args.self.now c.args.worker c.args.person free c.requires.held) in
    let cap = c.self.invariant.0 in
    omega arith
