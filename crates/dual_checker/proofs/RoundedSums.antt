-- Sums of costs and rounded prices that show slackness 1.
use Rattle.std.proofs.Common.{◌≡◌, ℕ, ℤ, pos, neg_ℤ, zero, suc, ◌+◌, ◌+ℤ◌, ◌*ℤ◌, ◌≤ℤ◌, ◌<◌, ◌≤◌, List, length}
use Rattle.std.proofs.Common.{get_or, set, arith, ap, sym, ◌∙◌, inl, inr, add-one, IsTrue, false}
use Rattle.std.proofs.lemmas.Bool.{cases_lt}
use Rattle.std.proofs.lemmas.Int.{ints}
use Rattle.std.proofs.lemmas.List.{get_or-set_other, get_or-set_same}
use Rattle.std.proofs.lemmas.List.Elements.{All-from_get_or, All-map}
use lib.Signed.{le_z, lt_z}
use lib.IntN.{suc_ℤ-*ℤ, zero-*ℤ, *ℤ-zero}
use Rattle.assign_core.specs.declared.numbers.TheConstants.{MOST_PERSONS}
use Rattle.assign_core.specs.declared.sense.Sense.{Sense}
use Rattle.assign_core.specs.declared.sense.Sense.TheVariants.{Min, Max}
use Rattle.assign_core.specs.Rows.{Listing, IsRow, listed_or_zero}
use Rattle.assign_core.specs.Benefits.{benefit, benefit_row}
use Rattle.assign_core.specs.Prices.{price_of}
use Rattle.assign_core.specs.Slackness.{HasSlack, IsWorth}
use Rattle.assign_core.proofs.Duality.{benefit_value}
use Rattle.assign_core.proofs.Products.{distributes, opposite, steps_below}
use Rattle.dual_checker.specs.declared.rounded.TheConstants.{MOST_ROUNDED}
use Rattle.dual_checker.specs.inside.Rounded.{AreRounded, IsRounded, IsLeastSum, minimised}

-- products with the same factor keep the order
products_ordered : (s : ℕ) (a b : ℤ) → a ≤ℤ b → (pos s *ℤ a) ≤ℤ (pos s *ℤ b)
products_ordered zero a b le = let x = zero-*ℤ a in let y = zero-*ℤ b in omega (arith, ints)
products_ordered (suc s) a b le =
    let x : pos (suc s) *ℤ a ≡ (pos s *ℤ a) +ℤ a = suc_ℤ-*ℤ (pos s) a in
    let y : pos (suc s) *ℤ b ≡ (pos s *ℤ b) +ℤ b = suc_ℤ-*ℤ (pos s) b in
    let i = products_ordered s a b le in
    omega (arith, ints)

-- a benefit is the cost to minimise, scaled and negated
benefit_low : (sense : Sense) (m : ℕ) (cost : ℤ) → benefit sense m cost ≡ neg_ℤ (pos (m + 1) *ℤ minimised sense cost)
benefit_low Min m cost = opposite m cost ∙ ap (λ k. neg_ℤ (pos k *ℤ cost)) (sym (add-one m))
benefit_low Max m cost =
    let none : cost +ℤ neg_ℤ cost ≡ pos 0 = omega (arith, ints) in
    let zero_sum = sym (distributes (pos (m + 1)) cost (neg_ℤ cost)) ∙ ap (λ c. pos (m + 1) *ℤ c) none ∙ *ℤ-zero (pos (m + 1)) in
    omega (arith, ints)

-- one entry, of which the sum isn't below that of the own object
worth_by_sums : (sense : Sense) (m : ℕ) (cost price rounded own_cost own_price own_rounded : ℤ) → own_price ≤ℤ ((pos (m + 1) *ℤ own_rounded) +ℤ pos 1) →
    (pos (m + 1) *ℤ rounded) ≤ℤ price → (minimised sense own_cost +ℤ own_rounded) ≤ℤ (minimised sense cost +ℤ rounded) →
    (benefit sense m cost +ℤ own_price) ≤ℤ (benefit sense m own_cost +ℤ price +ℤ pos 1)
worth_by_sums sense m cost price rounded own_cost own_price own_rounded near below least =
    let own = benefit_low sense m own_cost in
    let that = benefit_low sense m cost in
    let x = distributes (pos (m + 1)) (minimised sense own_cost) own_rounded in
    let y = distributes (pos (m + 1)) (minimised sense cost) rounded in
    let z = products_ordered (m + 1) (minimised sense own_cost +ℤ own_rounded) (minimised sense cost +ℤ rounded) least in
    omega (arith, ints)

-- a row whose least sum isn't below that of the own object
pub slack_by_sums : (sense : Sense) (rounded prices : List ℤ) (row : Listing) (own : ℕ) (cost least : ℤ) →
    AreRounded rounded prices → IsRow (length prices) row → cost ≡ listed_or_zero row own →
    price_of prices own ≤ℤ ((pos (length prices + 1) *ℤ price_of rounded own) +ℤ pos 1) →
    IsLeastSum sense rounded row least → (minimised sense cost +ℤ price_of rounded own) ≤ℤ least →
    HasSlack (pos 1) prices (benefit_row sense (length prices) row) own
slack_by_sums sense rounded prices row own cost least f r is near sums under =
    let m : ℕ = length prices in
    let value : listed_or_zero (benefit_row sense m row) own ≡ benefit sense m (listed_or_zero row own) = benefit_value sense m row own in
    All-map (IsWorth (pos 1) prices (benefit_row sense m row) own) (λ e. (e.0, benefit sense m e.1)) row (λ k d lt.
    let e : ℕ × ℤ = get_or row k d in
    let sum = sums k d lt in
    let below = f.below e.0 (r.within k d lt) in
    let entry = worth_by_sums sense m e.1 (price_of prices e.0) (price_of rounded e.0) cost (price_of prices own)
    (price_of rounded own) near below (omega (arith, ints)) in
    rw (value, sym is) entry)

-- a test that holds, and one that doesn't
pub from_test : (a b : ℤ) → IsTrue (le_z a b) → a ≤ℤ b
from_test a b t = grind (arith, ints, t)

pub from_no_test : (a b : ℤ) → lt_z a b ≡ false → b ≤ℤ a
from_no_test a b t = grind (arith, ints, t)

-- the least of the sums so far, and of one more
pub least_more : (P : ℕ → ℤ) (i : ℕ) (before after sum : ℤ) → ((k : ℕ) → k < i → before ≤ℤ P k) → after ≤ℤ before →
    after ≤ℤ sum → sum ≡ P i → (k : ℕ) → k < i + 1 → after ≤ℤ P k
least_more P i before after sum h low under is k below = elim (cases_lt k i) [
  | inl less ↦ let e = h k less in omega (arith, ints)
  | inr most ↦ let same : k ≡ i = omega arith in let e = ap P same in omega (arith, ints)
]

-- a rounded price in the unit of prices
pub record IsWhole (price : ℤ) : Type 0 where
  pub least : pos 0 ≤ℤ price
  pub greatest : price ≤ℤ (pos (MOST_PERSONS + 1) *ℤ MOST_ROUNDED)

pub whole_range : (n : ℕ) (rounded : ℤ) → n ≤ MOST_PERSONS → IsRounded rounded → IsWhole (pos (n + 1) *ℤ rounded)
whole_range n rounded few f =
    let none = *ℤ-zero (pos (n + 1)) in
    let some = products_ordered (n + 1) (pos 0) rounded f.least in
    record {
      least = omega (arith, ints);
      greatest = steps_below (n + 1) (MOST_PERSONS + 1) rounded MOST_ROUNDED (omega arith) f.least f.greatest;
    }

pub scaled_price : (n : ℕ) (rounded a b : ℤ) → a ≡ pos n → b ≡ rounded → (a +ℤ pos 1) *ℤ b ≡ pos (n + 1) *ℤ rounded
scaled_price n rounded a b number same =
    let factor : a +ℤ pos 1 ≡ pos (n + 1) = omega (arith, ints) in
    ap (λ k. k *ℤ b) factor ∙ ap (λ k. pos (n + 1) *ℤ k) same

-- a price among m objects, rounded down
pub record IsRoundedOf (m : ℕ) (price rounded : ℤ) : Type 0 where
  pub range : IsRounded rounded
  pub below : (pos (m + 1) *ℤ rounded) ≤ℤ price

pub one_rounded : (m : ℕ) (rounded prices : List ℤ) (i : ℕ) (value : ℤ) → i < length rounded →
    ((k : ℕ) → k < i → IsRoundedOf m (get_or prices k (pos 0)) (get_or rounded k (pos 0))) → IsRoundedOf m (get_or prices i (pos 0)) value →
    (k : ℕ) → k < i + 1 → IsRoundedOf m (get_or prices k (pos 0)) (get_or (set rounded i value) k (pos 0))
one_rounded m rounded prices i value lt before here k below = elim (cases_lt k i) [
  | inl low ↦ rw (get_or-set_other rounded i k value (pos 0) (λ e. absurd (omega arith))) (before k low)
  | inr high ↦ let same : k ≡ i = omega arith in rw (same, get_or-set_same rounded i value (pos 0) lt) here
]

pub rounded_from : (rounded prices : List ℤ) (i : ℕ) → length rounded ≡ length prices → length prices ≤ i →
    ((k : ℕ) → k < i → IsRoundedOf (length prices) (get_or prices k (pos 0)) (get_or rounded k (pos 0))) → AreRounded rounded prices
rounded_from rounded prices i long end h = record {
  long = long;
  each = All-from_get_or IsRounded rounded (pos 0) (λ k lt. (h k (omega arith)).range);
  below = λ k number. by_place k number.first number.last;
} where
  by_place : (k : ℕ) → 0 < k → k ≤ length prices → (pos (length prices + 1) *ℤ price_of rounded k) ≤ℤ price_of prices k
  by_place zero some last = absurd (omega arith)
  by_place (suc k) some last = (h k (omega arith)).below
