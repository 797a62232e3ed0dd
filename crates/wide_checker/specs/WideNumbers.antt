-- Numbers of 128 bits in two words, and their limits.
use Rattle.std.specs.Prelude.{ℕ, ℤ, pos, neg_ℤ, ◌+ℤ◌, ◌*ℤ◌, ◌≤ℤ◌, ◌<◌, ◌^◌, List, length, slice_index_or}
use Rattle.wide_checker.specs.declared.numbers.Wide.{Wide}
use Rattle.wide_checker.specs.declared.numbers.TheConstants.{GREATEST_WIDE_COST, GREATEST_WIDE_PRICE}

-- the number that two words are: the low one counts from 0, and the high one has the sign
unfoldable pub wide_value : Wide → ℤ
wide_value w = (w.high *ℤ pos (2 ^ 64)) +ℤ pos w.low

-- at most the greatest cost in absolute value
pub record IsInCosts (c : ℤ) : Type 0 where
  pub least : neg_ℤ GREATEST_WIDE_COST ≤ℤ c
  pub greatest : c ≤ℤ GREATEST_WIDE_COST

-- a cost in two words
abbrev pub IsWideCost : Wide → Type 0
IsWideCost w = IsInCosts (wide_value w)

-- from 0 to the greatest price
pub record IsInPrices (p : ℤ) : Type 0 where
  pub least : pos 0 ≤ℤ p
  pub greatest : p ≤ℤ GREATEST_WIDE_PRICE

-- k is the first place, from 0, of what is no cost
pub record IsFirstBeyond (costs : List Wide) (k : ℕ) : Type 0 where
  pub within : k < length costs
  pub here : (d : Wide) → ¬ IsWideCost (slice_index_or costs k d)
  pub none_before : (i : ℕ) (d : Wide) → i < k → IsWideCost (slice_index_or costs i d)
