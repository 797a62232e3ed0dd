-- The answers to a submitted bid and to a recorded Hall set.
use Rattle.std.specs.Prelude.{◌≡◌, ℕ, ℤ, ◌+ℤ◌, ◌≤ℤ◌, ◌<ℤ◌, List, Result, Ok, Err}
use Rattle.assign_core.specs.Hall.{HallLists}
use Rattle.assign_core.specs.Matching.{owner_of}
use Rattle.assign_core.specs.Prices.{IsBelow, price_of}
use Rattle.bidder.specs.declared.offers.BelowFloor.{BelowFloor}
use Rattle.bidder.specs.declared.offers.Bid.{Bid}
use Rattle.bidder.specs.Offers.{IsSound}
use Rattle.auction_book.specs.declared.answers.Accepted.{Accepted}
use Rattle.auction_book.specs.declared.answers.Refused.{Refused}
use Rattle.auction_book.specs.declared.answers.Refused.TheVariants.{NotClaimed, WrongPhase, TooLow, Memory}
use Rattle.auction_book.specs.Book.{BookData, Holds, prices_of}
use Rattle.auction_book.specs.Changes.{accepted, released, recorded}

-- a bid that names the book's phase is sound for it and for some table below the book's prices
abbrev pub IsFitting : BookData → Bid → Type 0
IsFitting b bid = bid.phase ≡ b.ask.phase → (q : List ℤ) × IsBelow q (prices_of b) × IsSound b.base b.ask q bid

-- the level is above the object's price by eps or more
abbrev pub IsHigh : BookData → Bid → Type 0
IsHigh b bid = (price_of (prices_of b) bid.object +ℤ b.ask.eps) ≤ℤ bid.level

-- whether the bid was accepted or why it was refused, in the order of the tests, and the book
-- afterwards
abbrev pub IsSubmitted : BookData → ℕ → Bid → Result Accepted Refused → BookData → Type 0
IsSubmitted b worker bid (Err NotClaimed) new = (Holds b worker bid.person → ⊥) × (new ≡ b)
IsSubmitted b worker bid (Err WrongPhase) new = Holds b worker bid.person × (bid.phase ≡ b.ask.phase → ⊥) × (new ≡ released b worker bid.person)
IsSubmitted b worker bid (Err (TooLow price)) new = Holds b worker bid.person × (bid.phase ≡ b.ask.phase) ×
    (bid.level <ℤ (price +ℤ b.ask.eps)) × (price ≡ price_of (prices_of b) bid.object) ×
    (new ≡ released b worker bid.person)
IsSubmitted b worker bid (Err Memory) new = Holds b worker bid.person × (bid.phase ≡ b.ask.phase) × IsHigh b bid × (new ≡ released b worker bid.person)
IsSubmitted b worker bid (Ok a) new = Holds b worker bid.person × (bid.phase ≡ b.ask.phase) × IsHigh b bid ×
    (a.evicted ≡ owner_of b.owners bid.object) × (new ≡ accepted b worker bid)

-- whether the set was recorded or why it was refused, and the book afterwards
abbrev pub IsRecorded : BookData → ℕ → BelowFloor → HallLists → Result (Unit {0}) Refused → BookData → Type 0
IsRecorded b worker below lists (Ok done) new = Holds b worker below.person × (below.phase ≡ b.ask.phase) × (new ≡ recorded b worker below.person lists)
IsRecorded b worker below lists (Err NotClaimed) new = (Holds b worker below.person → ⊥) × (new ≡ b)
IsRecorded b worker below lists (Err WrongPhase) new = Holds b worker below.person × (below.phase ≡ b.ask.phase → ⊥) × (new ≡ released b worker below.person)
IsRecorded b worker below lists (Err (TooLow price)) new = ⊥
IsRecorded b worker below lists (Err Memory) new = ⊥
