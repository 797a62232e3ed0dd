-- How a contract sees a desk and a book in hand.
use Rattle.std.specs.Prelude.{◌≡◌, ℕ, zero, suc, ◌+◌, List, [], ◌∷◌, ◌++◌, Option, None, Bool}
use Rattle.atomic_table.specs.Seated.{TableId}
use Rattle.scaled_values.specs.Scaled.{ScaledProblem}
use Rattle.bidder.specs.declared.offers.Offer.{Offer}
use Rattle.auction_book.specs.Book.{BookData}
use Rattle.async_workers.specs.declared.rule.Known.{Known}
use Rattle.async_workers.specs.declared.rule.LastSession.{LastSession}
use Rattle.async_workers.specs.declared.rule.View.{View}
use Rattle.async_workers.specs.declared.rule.View.TheVariants.{Away, Holding}
use Rattle.async_workers.specs.PlaceRule.{IsCurrent, MayFollow}
use Rattle.async_workers.specs.Views.{first_known, first_session}

-- the problem, the place, the view of the desk's pass, what the desk knows, its offer, and the
-- numbers of past sessions, in all and since its table last caught up
pub record DeskData : Type 0 where
  pub base : ScaledProblem
  pub place : TableId
  pub view : View
  pub known : Known
  pub offer : Option Offer
  pub sessions : ℕ
  pub since : ℕ

-- a book in hand, the offer that its desk had prepared, and whether its desk has caught up in this session
pub record HeldData : Type 0 where
  pub book : BookData
  pub offer : Option Offer
  pub caught_up : Bool

-- what the desk knows, with these as the books that it last took and put back
abbrev pub session_by : DeskData → BookData → BookData → LastSession
session_by d taken put = record { base = d.base; known = d.known; taken = taken; put = put }

-- the desk doesn't have the book; it last took the first book and put back the second
abbrev pub IsAway : DeskData → BookData → BookData → Type 0
IsAway d taken put = d.view ≡ Away (session_by d taken put)

-- a desk of this place, without the book
abbrev pub IsReady : TableId → DeskData → Type 0
IsReady place d = (d.place ≡ place) × ((taken put : BookData) × IsAway d taken put)

-- the desk has the book that it took in this state
abbrev pub IsHolding : DeskData → BookData → Type 0
IsHolding d taken = (t : LastSession) × (d.view ≡ Holding t taken) × (t.known.number ≡ d.known.number)

-- the desk may put this book back
abbrev pub MayGive : DeskData → BookData → Type 0
MayGive d b = (taken : BookData) × IsHolding d taken × MayFollow d.known taken b

-- all that the desk last learnt is true of the book
abbrev pub IsTrueOf : BookData → DeskData → Type 0
IsTrueOf b d = (taken put : BookData) → IsAway d taken put → IsCurrent b (session_by d taken put)

-- a new desk of a place
abbrev pub new_desk : TableId → BookData → ℕ → DeskData
new_desk place b number = record {
  base = b.base;
  place = place;
  view = Away (first_session b number);
  known = first_known b number;
  offer = None;
  sessions = 0;
  since = 0;
}

-- desks 1, 2, .., n
abbrev pub new_desks : TableId → BookData → ℕ → List DeskData
new_desks place b zero = []
new_desks place b (suc n) = new_desks place b n ++ new_desk place b (n + 1) ∷ []
