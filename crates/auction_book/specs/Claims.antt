-- The answers to a claim.
use Rattle.std.specs.Prelude.{◌≡◌, ℕ, List, [], ◌∷◌, length, Bool, true, false, cond, is_some}
use Rattle.assign_core.specs.Numbered.{IsNumber}
use Rattle.scaled_values.specs.Scaled.{ScaledProblem}
use Rattle.bidder.specs.Offers.{IsAsk}
use Rattle.auction_book.specs.declared.answers.Claim.{Claim}
use Rattle.auction_book.specs.declared.answers.Claim.TheVariants as claim
use Rattle.auction_book.specs.Book.{BookData, Holds}
use Rattle.auction_book.specs.Phases.{is_done}
use Rattle.auction_book.specs.Changes.{claimed}

-- the front of the queue, if it isn't empty
abbrev pub claim_front : BookData → List ℕ → Claim
claim_front b [] = claim.Wait
claim_front b (person ∷ queue) = claim.Person person b.ask

-- the first of the answers that applies
abbrev pub claim_of : BookData → Claim
claim_of b = cond (is_some b.refuted) claim.Refuted (cond (is_done b) claim.Done (cond b.stopped claim.Stopped (claim_front b b.queue)))

-- no person waits
abbrev pub is_wait : Claim → Bool
is_wait claim.Refuted = false
is_wait claim.Done = false
is_wait claim.Stopped = false
is_wait (claim.Person person ask) = false
is_wait claim.Wait = true

-- the book after that answer
abbrev pub after_claim : BookData → ℕ → Claim → BookData
after_claim b worker (claim.Person person ask) = claimed b worker
after_claim b worker claim.Refuted = b
after_claim b worker claim.Done = b
after_claim b worker claim.Stopped = b
after_claim b worker claim.Wait = b

-- if a person was claimed, the worker holds its claim, and the answer has what the book asks of its
-- bid
abbrev pub IsHeld : BookData → ℕ → Claim → Type 0
IsHeld new worker (claim.Person person ask) = (ask ≡ new.ask) × Holds new worker person
IsHeld new worker answer = Unit {0}

-- a claimed person is one of the problem, and the answer has the slackness and the floor of some
-- phase
abbrev pub IsAsked : ScaledProblem → Claim → Type 0
IsAsked s (claim.Person person ask) = IsNumber (length s.problem) person × IsAsk s ask
IsAsked s claim.Refuted = Unit {0}
IsAsked s claim.Done = Unit {0}
IsAsked s claim.Stopped = Unit {0}
IsAsked s claim.Wait = Unit {0}
