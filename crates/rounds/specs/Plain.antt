-- Plain rounds of the auction (Bertsekas, Network Optimization, 1998, section 7.1, in Jacobi's
-- form): one thread takes all offers of a round from one table.
use Rattle.std.specs.Prelude.{ℕ, zero, suc, ℤ, ◌+◌, ◌+ℤ◌, List, [], ◌∷◌, ◌++◌, Option, None, Some, option_map, Bool, true, false, replicate, length}
use Rattle.std.specs.Int.Signed.{lt_z}
use Rattle.assign_core.specs.Numbered.{renumbered}
use Rattle.assign_core.specs.Prices.{price_of}
use Rattle.assign_core.specs.Matching.{owner_of}
use Rattle.scaled_values.specs.Scaled.{ScaledProblem, first_eps, next_eps, floor_of, greatest_of}
use Rattle.bidder.specs.declared.offers.Ask.{Ask}
use Rattle.bidder.specs.declared.offers.Bid.{Bid}
use Rattle.bidder.specs.declared.offers.Offer.{Offer}
use Rattle.bidder.specs.declared.offers.Offer.TheVariants as made
use Rattle.auction_book.specs.Changes.{requeued}
use Rattle.auction_book.specs.Phases.{persons}
use Rattle.rounds.specs.Offers.{offers_of}

-- prices, the owner of each object, the queue, and what the phase asks of a bid
pub record Plain : Type 0 where
  pub prices : List ℤ
  pub owners : List (Option ℕ)
  pub queue : List ℕ
  pub ask : Ask

-- the end of a run: nobody waits in the last phase, or a person is below the floor
pub data End : Type 0 where
  Finished : Plain → End
  Halted : ℕ → Plain → End

-- a run goes on, or has ended
pub data RunState : Type 0 where
  Goes : Plain → RunState
  Ends : End → RunState

-- after a bid, which is too low or is accepted
abbrev pub after_bid : Bool → Plain → Bid → Plain
after_bid true b bid = record b { queue = b.queue ++ bid.person ∷ [] }
after_bid false b bid = record b {
  prices = renumbered b.prices bid.object bid.level;
  owners = renumbered b.owners bid.object (Some bid.person);
  queue = requeued b.queue (owner_of b.owners bid.object);
}

-- a bid is accepted at a level of eps above the price or more
abbrev pub submitted : Plain → Bid → Plain
submitted b bid = after_bid (lt_z bid.level (price_of b.prices bid.object +ℤ b.ask.eps)) b bid

-- after an offer, which is submitted or ends the run
abbrev pub after_offer : Plain → Offer → RunState
after_offer b (made.Bid bid) = Goes (submitted b bid)
after_offer b (made.Below below) = Ends (Halted below.person b)

-- the next step, if the run goes on
abbrev pub and_then : RunState → (Plain → RunState) → RunState
and_then (Goes b) next = next b
and_then (Ends e) next = Ends e

-- after offers, one by one, up to the first that is below the floor
abbrev pub after_offers : List Offer → Plain → RunState
after_offers [] b = Goes b
after_offers (offer ∷ offers) b = and_then (after_offer b offer) (after_offers offers)

-- nobody waits any more, each person who waited makes an offer from the same table, and these are
-- submitted one by one
abbrev pub round : ScaledProblem → Plain → RunState
round s b = after_offers (offers_of s b.prices b.ask b.queue) (record b { queue = [] })

-- the start of a phase: nobody owns anything, all persons wait, and prices are kept
abbrev pub begun : ScaledProblem → List ℤ → ℕ → ℤ → Plain
begun s prices phase eps = record {
  prices = prices;
  owners = replicate (length s.problem) None;
  queue = persons (length s.problem);
  ask = record { phase = phase; eps = eps; floor = floor_of s (greatest_of prices) eps };
}

-- the start of a run with these prices
abbrev pub opening : ScaledProblem → List ℤ → Plain
opening s prices = begun s prices 1 (first_eps s)

-- if nobody waits, the next phase, if there is one
abbrev pub ready_by : ScaledProblem → Plain → List ℕ → Option Plain
ready_by s b [] = option_map (begun s b.prices (b.ask.phase + 1)) (next_eps b.ask.eps)
ready_by s b (i ∷ queue) = Some b

-- the auction in a phase with persons who wait, if there is one
abbrev pub ready : ScaledProblem → Plain → Option Plain
ready s b = ready_by s b b.queue

-- one more round, in a phase that has begun
abbrev pub round_or_end : ScaledProblem → Plain → Option Plain → RunState
round_or_end s b None = Ends (Finished b)
round_or_end s b (Some c) = round s c

-- the next round of a run, or its end
abbrev pub next_round : ScaledProblem → Plain → RunState
next_round s b = round_or_end s b (ready s b)

-- the state after m rounds
unfoldable pub run : ScaledProblem → ℕ → Plain → RunState
run s zero b = Goes b
run s (suc m) b = and_then (run s m b) (next_round s)
