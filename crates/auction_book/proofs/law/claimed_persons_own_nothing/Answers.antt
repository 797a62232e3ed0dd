use Rattle.auction_book.proofs.Calling.{held_is_person, held_owns_nothing}
use Rattle.auction_book.proofs.law.claimed_persons_own_nothing.Goals as goal

pub returns : goal.returns
returns c = record { person = held_is_person; unowned = held_owns_nothing }
