-- How a contract sees a book.
use Rattle.std.specs.Prelude.{◌≡◌, ℕ, ℤ, pos, ◌+◌, ◌-◌, ◌+ℤ◌, ◌-ℤ◌, List, [], ◌∷◌, Option, None, Some, Bool, false}
use Rattle.std.specs.Prelude.{cond, nat_eq, nat_le, ◌&&◌, count_by, length, int_div}
use Rattle.assign_core.specs.Hall.{HallLists}
use Rattle.assign_core.specs.Numbered.{numbered}
use Rattle.scaled_values.specs.Scaled.{ScaledProblem, greatest_of, top_of}
use Rattle.bidder.specs.declared.offers.Ask.{Ask}
use Rattle.price_log.specs.History.{History, last_version, today}

-- the problem; what the phase asks of a bid; the prices and the version at the phase's start; the
-- owners; the queue; and for each worker its claimed person, its count of accepted bids and its
-- last version
pub record BookData : Type 0 where
  pub base : ScaledProblem
  pub ask : Ask
  pub start : List ℤ
  pub start_version : ℕ
  pub owners : List (Option ℕ)
  pub queue : List ℕ
  pub claims : List (Option ℕ)
  pub counts : List ℕ
  pub taken : List ℕ
  pub log : History
  pub refuted : Option HallLists
  pub stopped : Bool

-- the number of persons
abbrev pub persons_of : BookData → ℕ
persons_of b = length b.base.problem

-- the current prices
abbrev pub prices_of : BookData → List ℤ
prices_of b = today b.log

-- the current version of the prices
abbrev pub version_of : BookData → ℕ
version_of b = last_version b.log

-- the worker holds that person's claim
abbrev pub Holds : BookData → ℕ → ℕ → Type 0
Holds b worker person = numbered b.claims worker None ≡ Some person

-- the number of bids accepted in this phase
abbrev pub phase_accepted : BookData → ℕ
phase_accepted b = version_of b - b.start_version

-- the sum of the amounts by which the prices are below a top
abbrev pub room_under : ℤ → List ℤ → ℤ
room_under top [] = pos 0
room_under top (p ∷ prices) = (top -ℤ p) +ℤ room_under top prices

-- an upper bound on the bids that a phase accepts, since each raises a price by eps or more
abbrev pub phase_bound : BookData → ℤ
phase_bound b = int_div (room_under (top_of b.base (greatest_of b.start) b.ask.eps) b.start) b.ask.eps

-- the entry is person i
abbrev pub is_person : ℕ → Option ℕ → Bool
is_person i None = false
is_person i (Some k) = nat_eq i k

-- the number of places of person i: as owner, in the queue, as claimed
abbrev pub places : List (Option ℕ) → List ℕ → List (Option ℕ) → ℕ → ℕ
places owners queue claims i = count_by (is_person i) owners + count_by (nat_eq i) queue + count_by (is_person i) claims

-- 1 for each of n persons, and 0 for every other number
abbrev pub one_if_person : ℕ → ℕ → ℕ
one_if_person n i = cond (nat_le 1 i && nat_le i n) 1 0
