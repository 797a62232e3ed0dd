-- The invariant of a book between two calls: a free book.
use Rattle.std.specs.Prelude.{◌≡◌, ℕ, ℤ, pos, ◌-◌, ◌*ℤ◌, ◌+ℤ◌, ◌≤ℤ◌, ◌<◌, ◌≤◌, List, Option, None, Some, MatchOption, count_by, length, sum, is_some}
use Rattle.assign_core.specs.Rows.{IsProblem}
use Rattle.assign_core.specs.Prices.{IsTable, price_of}
use Rattle.assign_core.specs.Matching.{IsMatching, owner_of}
use Rattle.assign_core.specs.Slackness.{HasSlack}
use Rattle.assign_core.specs.Hall.{IsHallSet}
use Rattle.scaled_values.specs.Scaled.{ScaledProblem, eps_after, first_eps, floor_of, greatest_of, spread, top_of}
use Rattle.bidder.specs.declared.offers.Ask.{Ask}
use Rattle.bidder.specs.Offers.{benefits_at}
use Rattle.price_log.specs.History.{IsHistory, sum_of}
use Rattle.assign_core.specs.declared.numbers.TheConstants.{GREATEST_FIRST_PRICE}
use Rattle.auction_book.specs.Book.{BookData, one_if_person, persons_of, places, prices_of, version_of}

-- a price for each object, at the phase's start and now; the lists by worker have the same length
pub record HasSizes (n : ℕ) (prices start : List ℤ) (claims : List (Option ℕ)) (counts taken : List ℕ) : Type 0 where
  pub priced : length prices ≡ n
  pub started : length start ≡ n
  pub counted : length counts ≡ length claims
  pub noted : length taken ≡ length claims

-- the slackness and the floor of the phase; its greatest first price is at most 10^21 plus n times
-- the sum of the spread and the first slackness for each earlier phase
pub record IsPhase (base : ScaledProblem) (ask : Ask) (start : List ℤ) : Type 0 where
  pub begins : 0 < ask.phase
  pub start_prices : IsTable start
  pub slackness : eps_after base (ask.phase - 1) ≡ Some ask.eps
  pub floor_is : ask.floor ≡ floor_of base (greatest_of start) ask.eps
  pub start_low : greatest_of start ≤ℤ (GREATEST_FIRST_PRICE +ℤ (pos (ask.phase - 1) *ℤ (pos (length base.problem) *ℤ (spread base +ℤ first_eps base))))

-- an unowned object has its price at the phase's start; an owned one has at least eps more
abbrev pub IsPriced : ℤ → ℤ → ℤ → Option ℕ → Type 0
IsPriced eps first now None = now ≡ first
IsPriced eps first now (Some i) = (first +ℤ eps) ≤ℤ now

-- at least as many bids were accepted in the phase as objects are owned, and each raised a price by
-- eps or more
pub record IsProgress (eps : ℤ) (start prices : List ℤ) (first now : ℕ) (owners : List (Option ℕ)) : Type 0 where
  pub begun : first ≤ now
  pub owned : count_by is_some owners ≤ now - first
  pub risen : (sum_of start +ℤ (pos (now - first) *ℤ eps)) ≤ℤ sum_of prices

-- owners are a matching with slackness at the book's prices. Each person owns an object, waits or
-- is claimed. The log ascends, and prices are between those at the phase's start and its top.
-- Phase, slackness and floor belong together. The workers' counts add up to the version, and a
-- recorded set is a Hall set
pub record IsFree (b : BookData) : Type 0 where
  pub problem : IsProblem b.base.problem
  pub sizes : HasSizes (persons_of b) (prices_of b) b.start b.claims b.counts b.taken
  pub owners_match : IsMatching b.base.problem b.owners
  pub owners_slack : (i j : ℕ) → owner_of b.owners j ≡ Some i → HasSlack b.ask.eps (prices_of b) (benefits_at b.base i) j
  pub placed_once : (i : ℕ) → places b.owners b.queue b.claims i ≡ one_if_person (persons_of b) i
  pub log_ascends : IsHistory b.log
  pub priced : (j : ℕ) → IsPriced b.ask.eps (price_of b.start j) (price_of (prices_of b) j) (owner_of b.owners j)
  pub topped : (j : ℕ) → price_of (prices_of b) j ≤ℤ top_of b.base (greatest_of b.start) b.ask.eps
  pub in_phase : IsPhase b.base b.ask b.start
  pub counts_total : sum b.counts ≡ version_of b
  pub progress : IsProgress b.ask.eps b.start (prices_of b) b.start_version (version_of b) b.owners
  pub recorded : MatchOption b.refuted (Unit {0}) (λ h. IsHallSet b.base.problem h.persons h.objects)
