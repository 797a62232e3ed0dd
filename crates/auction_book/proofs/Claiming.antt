-- The answers to a claim.
use Rattle.std.proofs.Common.{◌≡◌, ℕ, List, [], ◌∷◌, true, false, cond, is_some, refl}
use Rattle.std.proofs.lemmas.Bool.{cond_both}
use Rattle.scaled_values.specs.Scaled.{greatest_of}
use Rattle.bidder.specs.Offers.{IsAsk}
use Rattle.auction_book.specs.declared.answers.Claim.{Claim}
use Rattle.auction_book.specs.declared.answers.Claim.TheVariants as claim
use Rattle.auction_book.specs.Book.{BookData}
use Rattle.auction_book.specs.Changes.{claimed}
use Rattle.auction_book.specs.Claims.{after_claim, claim_front, claim_of}
use Rattle.auction_book.specs.Free.{IsFree}
use Rattle.auction_book.specs.Phases.{is_done}
use Rattle.auction_book.proofs.Opening.{greatest_is_price}
use Rattle.auction_book.proofs.PhaseBounds.{is_eps}

-- the answer to a claim, by cases
pub claim_by : (P : Claim → Type 0) (b : BookData) → (is_some b.refuted ≡ true → P claim.Refuted) →
    (is_done b ≡ true → P claim.Done) → (b.stopped ≡ true → P claim.Stopped) → (b.stopped ≡ false → b.queue ≡ [] →
    P claim.Wait) →
    ((person : ℕ) (rest : List ℕ) → b.stopped ≡ false → b.queue ≡ person ∷ rest → P (claim.Person person b.ask)) → P (claim_of b)
claim_by P b refuted done stopped wait person =
    cond_both (is_some b.refuted) claim.Refuted (cond (is_done b) claim.Done (cond b.stopped claim.Stopped (claim_front b b.queue))) P refuted
    (λ h. cond_both (is_done b) claim.Done (cond b.stopped claim.Stopped (claim_front b b.queue)) P done
    (λ h. cond_both b.stopped claim.Stopped (claim_front b b.queue) P stopped (λ going. front b.queue going refl)))
  where
    front : (queue : List ℕ) → b.stopped ≡ false → b.queue ≡ queue → P (claim_front b queue)
    front [] going e = wait going e
    front (i ∷ rest) going e = person i rest going e

-- what holds of the book before a claim, and after a person is claimed, holds after the claim
pub after_claim_by : (P : BookData → Type 0) (b : BookData) (worker : ℕ) (answer : Claim) → P b → P (claimed b worker) → P (after_claim b worker answer)
after_claim_by P b worker (claim.Person person ask) same some = some
after_claim_by P b worker claim.Refuted same some = same
after_claim_by P b worker claim.Done same some = same
after_claim_by P b worker claim.Stopped same some = same
after_claim_by P b worker claim.Wait same some = same

-- what the book asks belongs to a phase
pub ask_is : (b : BookData) → IsFree b → IsAsk b.base b.ask
ask_is b free = let i = free.in_phase in record {
  slackness = is_eps b.base b.ask b.start i;
  start =
      greatest_of b.start;
  price = greatest_is_price b.start i.start_prices;
  floor = i.floor_is;
}
