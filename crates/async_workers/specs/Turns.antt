-- The effect of a turn, a leave and a stop on a place and a desk.
use Rattle.std.specs.Prelude.{◌≡◌, ℕ, Option, None, Some, Bool, true, false, MatchOption, ◌||◌, cond}
use Rattle.atomic_table.specs.Seated.{TableId}
use Rattle.assign_core.specs.Numbered.{numbered}
use Rattle.assign_core.specs.declared.outcome.SolveFault.{SolveFault}
use Rattle.assign_core.specs.declared.outcome.SolveFault.TheVariants as fault
use Rattle.bidder.specs.Offers.{IsOffer}
use Rattle.auction_book.specs.declared.answers.Claim.{Claim}
use Rattle.auction_book.specs.declared.answers.Claim.TheVariants as claim
use Rattle.auction_book.specs.declared.schedule.Event.{Event}
use Rattle.auction_book.specs.declared.schedule.WorkerState.{WorkerState}
use Rattle.auction_book.specs.Book.{BookData}
use Rattle.auction_book.specs.Changes.{given_up}
use Rattle.auction_book.specs.Free.{IsFree}
use Rattle.auction_book.specs.Schedule.{state_next}
use Rattle.auction_book.specs.declared.answers.Note.{Note}
use Rattle.async_workers.specs.declared.gate.Turn.{Turn}
use Rattle.async_workers.specs.declared.gate.Turn.TheVariants as turn
use Rattle.async_workers.specs.declared.place.Claimed.{Claimed}
use Rattle.async_workers.specs.declared.rule.Known.{Known}
use Rattle.async_workers.specs.Desk.{DeskData, IsAway, IsReady, session_by}
use Rattle.async_workers.specs.PlaceRule.{Extends, IsCurrent, MayFollow}
use Rattle.async_workers.specs.Session.{EndsUndone, EndsWell, counted}
use Rattle.async_workers.specs.Views.{known_after}

-- a desk with a claim has prepared its person's offer from its table; a desk without a claim has
-- none
abbrev pub HasOffer : DeskData → Type 0
HasOffer d = MatchOption d.offer (d.known.claim ≡ None)
    (λ offer. (c : Claimed) × (d.known.claim ≡ Some c) × IsOffer d.base d.known.table d.known.version c.ask c.person offer)

-- a desk of this place that may take a turn
pub record CanTurn (place : TableId) (d : DeskData) : Type 0 where
  pub ready : IsReady place d
  pub offer : HasOffer d

-- the desk as a worker of the core
abbrev pub state_of : DeskData → WorkerState
state_of d = record { table = d.known.table; version = d.known.version; offer = d.offer; accepted = d.known.accepted }

-- a session of the desk as an event of the core
abbrev pub event_of : DeskData → Bool → Event
event_of d caught = record { worker = d.known.number; catch_up = caught }

-- the answer of a turn, by the answer to its claim
abbrev pub turn_of : Claim → Turn
turn_of claim.Refuted = turn.Refuted
turn_of claim.Done = turn.Done
turn_of claim.Stopped = turn.Stopped
turn_of (claim.Person person ask) = turn.Claimed
turn_of claim.Wait = turn.Idle

-- a session of a desk with this end: it took a free book of which all that it last learnt is true,
-- and put back one that may follow it. The desk knows what it knew at the end and what it learns of
-- the book put back, has no offer, and counts the session
pub record Serves (d after : DeskData) (EndsSo : BookData → Known → BookData → Bool → Type 0) : Type 0 where
  pub taken : BookData
  pub put : BookData
  pub left : Known
  pub caught : Bool
  pub free : IsFree taken
  pub told : (a p : BookData) → IsAway d a p → IsCurrent taken (session_by d a p)
  pub number : left.number ≡ d.known.number
  pub may : MayFollow left taken put
  pub ends : EndsSo taken left put caught
  pub away : IsAway after taken put
  pub desk : after ≡ counted caught (record d { view = after.view; known = known_after left put; offer = None })

-- a turn without a fault: a session that ends well, after which an offer is prepared. Book put
-- back, desk and answer are what one event of the core makes of the book taken and the desk
pub record Turned (refresh : ℕ) (d after : DeskData) (answer : Turn) : Type 0 where
  pub note : Note
  pub claimed : Claim
  pub given : DeskData
  pub serves : Serves d given (EndsWell refresh d.since d.known d.offer note claimed)
  pub state : state_of after ≡ state_next (event_of d serves.caught) serves.ends.submitted (state_of d)
  pub desk : after ≡ record given { offer = after.offer }
  pub answered : answer ≡ turn_of claimed

-- a turn that was refused memory: the desk has no claim and no offer
pub record Faulted (refresh : ℕ) (d after : DeskData) : Type 0 where
  pub note : Note
  pub serves : Serves d after (EndsUndone refresh d.since d.known d.offer note)
  pub no_claim : after.known.claim ≡ None

-- a turn that ends a worker's run
abbrev pub EndsRun : Turn → Type 0
EndsRun turn.Done = Unit {0}
EndsRun turn.Refuted = Unit {0}
EndsRun turn.Stopped = Unit {0}
EndsRun t = ⊥

-- there is no fault except for refused memory
abbrev pub IsMemory : Option SolveFault → Type 0
IsMemory met = MatchOption met (Unit {0}) (λ f. f ≡ fault.Memory)

-- the turn that ends a worker's run: one with this answer, or one with a fault
abbrev pub IsLastTurn : ℕ → DeskData → DeskData → Option SolveFault → Type 0
IsLastTurn refresh before after met = MatchOption met ((answer : Turn) × Turned refresh before after answer ×
    EndsRun answer) (λ f. Faulted refresh before after)

-- a session keeps a desk's place and problem, and the book that it puts back extends the one that
-- it put back before
pub record WorksOn (d after : DeskData) : Type 0 where
  pub place : after.place ≡ d.place
  pub base : after.base ≡ d.base
  pub number : after.known.number ≡ d.known.number
  pub extends : (taken put : BookData) → IsAway d taken put → (taken_next : BookData) × (put_next : BookData) ×
      IsAway after taken_next put_next × Extends put put_next

-- the book, stopped if `stopping` is true
abbrev pub stopped_if : Bool → BookData → BookData
stopped_if stopping b = cond stopping (record b { stopped = true }) b

-- the book with a worker's claim given up
abbrev pub without_claim : BookData → ℕ → BookData
without_claim b worker = given_up b worker (numbered b.claims worker None)

-- a session that gives up the claim, and stops the book if `stopping` is true
pub record Leaving (stopping : Bool) (k : Known) (taken : BookData) (left : Known) (put : BookData) (caught : Bool) : Type 0 where
  pub book : put ≡ stopped_if stopping (without_claim taken k.number)
  pub known : left ≡ record k { stop = (stopping || k.stop) }
  pub caught_up : caught ≡ false

-- a session that does only this: the desk has no claim and no offer
pub record StepsOut (stopping : Bool) (d after : DeskData) : Type 0 where
  pub serves : Serves d after (Leaving stopping d.known)
  pub no_claim : after.known.claim ≡ None
