-- The book in hand, from its take to its give.
use Rattle.std.specs.Prelude.{◌≡◌, ℕ, Bool, Option, Result, MatchResult, length}
use Rattle.assign_core.specs.Numbered.{IsNumber}
use Rattle.scaled_values.specs.Scaled.{ScaledProblem}
use Rattle.bidder.specs.declared.offers.Offer.{Offer}
use Rattle.auction_book.specs.declared.answers.Claim.{Claim}
use Rattle.auction_book.specs.declared.answers.Note.{Note}
use Rattle.auction_book.specs.Book.{BookData}
use Rattle.async_workers.specs.declared.rule.Known.{Known}
use Rattle.async_workers.specs.declared.rule.LastSession.{LastSession}
use Rattle.async_workers.specs.declared.rule.View.{View}
use Rattle.async_workers.specs.declared.rule.View.TheVariants.{Holding}
use Rattle.async_workers.specs.PlaceRule.{MayFollow}
use Rattle.async_workers.specs.Desk.{DeskData}
use Rattle.async_workers.specs.Session.{EndsUndone, EndsWell}

-- the book b replaces the book taken, and a desk with this view and knowledge may put it back
pub record HasInHand (base : ScaledProblem) (view : View) (k : Known) (taken b : BookData) : Type 0 where
  pub told : LastSession
  pub holding : view ≡ Holding told taken
  pub same_number : told.known.number ≡ k.number
  pub same_base : base ≡ b.base
  pub in_range : IsNumber (length b.claims) k.number
  pub may : MayFollow k taken b

abbrev pub IsInHand : DeskData → BookData → BookData → Type 0
IsInHand d taken b = HasInHand d.base d.view d.known taken b

-- the desk has this book in hand, in place of one that it took
abbrev pub HasBook : DeskData → BookData → Type 0
HasBook d b = (taken : BookData) × IsInHand d taken b

-- a step after which the desk has the book c in hand, in place of the same book
abbrev pub KeepsBook : DeskData → BookData → DeskData → BookData → Type 0
KeepsBook d b after c = (taken : BookData) → IsInHand d taken b → IsInHand after taken c

-- how a session ended: well, or with a growth refused
abbrev pub Ends : {E : Type 0} → ℕ → ℕ → Known → Option Offer → Note → Result Claim E → BookData → Known → BookData → Bool → Type 0
Ends refresh since k offer told outcome b left new caught =
    MatchResult outcome (λ answer. EndsWell refresh since k offer told answer b left new caught)
    (λ refused. EndsUndone refresh since k offer told b left new caught)
