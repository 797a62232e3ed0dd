-- What calls of a book keep for other workers, whatever the answer.
use Rattle.std.proofs.Common.{◌≡◌, ℕ, Some, Result, Ok, Err, sym, subst}
use Rattle.assign_core.specs.Hall.{HallLists}
use Rattle.assign_core.specs.Matching.{owner_of}
use Rattle.assign_core.specs.Numbered.{IsNumber}
use Rattle.bidder.specs.declared.offers.BelowFloor.{BelowFloor}
use Rattle.bidder.specs.declared.offers.Bid.{Bid}
use Rattle.auction_book.specs.declared.answers.Accepted.{Accepted}
use Rattle.auction_book.specs.declared.answers.Refused.{Refused}
use Rattle.auction_book.specs.declared.answers.Refused.TheVariants.{NotClaimed, WrongPhase, TooLow, Memory}
use Rattle.auction_book.specs.declared.answers.Claim.{Claim}
use Rattle.auction_book.specs.Book.{BookData, Holds, persons_of}
use Rattle.auction_book.specs.Claims.{after_claim}
use Rattle.auction_book.specs.Follows.{Follows}
use Rattle.auction_book.specs.Free.{IsFree}
use Rattle.auction_book.specs.Submissions.{IsFitting, IsRecorded, IsSubmitted}
use Rattle.auction_book.proofs.Accepting.{accepted_follows, released_follows}
use Rattle.auction_book.proofs.Claiming.{after_claim_by}
use Rattle.auction_book.proofs.Following.{claimed_follows, follows_itself, recorded_follows}
use Rattle.auction_book.proofs.Places.{held_person, unowned}

pub submitted_follows : (w : ℕ) (b new : BookData) (bid : Bid) (answer : Result Accepted Refused) → IsFree b →
    IsFitting b bid → IsSubmitted b w bid answer new → Follows w b new
submitted_follows w b new bid (Ok a) free fitting s = let f = fitting s.1 in subst (Follows w b) (sym s.4) (accepted_follows b w bid f.0 free f.1 f.2 s.2)
submitted_follows w b new bid (Err NotClaimed) free fitting s = subst (Follows w b) (sym s.1) (follows_itself b w)
submitted_follows w b new bid (Err WrongPhase) free fitting s = subst (Follows w b) (sym s.2) (released_follows b w bid.person)
submitted_follows w b new bid (Err (TooLow price)) free fitting s = subst (Follows w b) (sym s.4) (released_follows b w bid.person)
submitted_follows w b new bid (Err Memory) free fitting s = subst (Follows w b) (sym s.3) (released_follows b w bid.person)

pub set_follows : (w : ℕ) (b new : BookData) (below : BelowFloor) (lists : HallLists) (answer : Result (Unit {0})
    Refused) → IsRecorded b w below lists answer new → Follows w b new
set_follows w b new below lists (Ok done) s = subst (Follows w b) (sym s.2) (recorded_follows b w below.person lists)
set_follows w b new below lists (Err NotClaimed) s = subst (Follows w b) (sym s.1) (follows_itself b w)
set_follows w b new below lists (Err WrongPhase) s = subst (Follows w b) (sym s.2) (released_follows b w below.person)
set_follows w b new below lists (Err (TooLow price)) s = absurd s
set_follows w b new below lists (Err Memory) s = absurd s

pub answered_follows : (w : ℕ) (b : BookData) (answer : Claim) → Follows w b (after_claim b w answer)
answered_follows w b answer = after_claim_by (Follows w b) b w answer (follows_itself b w) (claimed_follows b w)

-- a claimed person is one of the problem
pub held_is_person : (b : BookData) (w person : ℕ) → IsFree b → Holds b w person → IsNumber (persons_of b) person
held_is_person b w person free held = held_person (persons_of b) b.owners b.queue b.claims w person free.placed_once held

-- a claimed person owns nothing
pub held_owns_nothing : (b : BookData) (w person j : ℕ) → IsFree b → Holds b w person → owner_of b.owners j ≡ Some person → ⊥
held_owns_nothing b w person j free held owns = unowned (persons_of b) b.owners b.queue b.claims w person j free.placed_once held owns
