-- Prices that rise, one or many.
use Rattle.std.proofs.Common.{◌≡◌, ℕ, ℤ, pos, ◌+ℤ◌, ◌≤ℤ◌, List, length, arith, inl, inr}
use Rattle.std.proofs.lemmas.Int.{ints}
use Rattle.std.proofs.lemmas.Bool.Decides.{eqb_tells}
use Rattle.std.proofs.lemmas.List.Elements.{All-weaker}
use Rattle.assign_core.specs.Numbered.{IsNumber, renumbered}
use Rattle.assign_core.specs.Rows.{Listing, listed_or_zero}
use Rattle.assign_core.specs.Prices.{IsBelow, price_of}
use Rattle.assign_core.specs.Slackness.{HasSlack, IsWorth}
use Rattle.assign_core.proofs.NumberedLemmas.{length-renumbered, numbered-other, numbered-same}

-- a table is below the same table with one price raised
pub rise : (prices : List ℤ) (j : ℕ) (level : ℤ) → price_of prices j ≤ℤ level → IsNumber (length prices) j → IsBelow prices (renumbered prices j level)
rise prices j level le number = record { long = long; each = each } where
  long : length prices ≡ length (renumbered prices j level)
  long = let same = length-renumbered prices j level in omega arith

  each : (k : ℕ) → price_of prices k ≤ℤ price_of (renumbered prices j level) k
  each k = elim (eqb_tells k j) [
    | inl t ↦ rw (t.1, numbered-same prices j level (pos 0) number.first number.last) le
    | inr t ↦ rw (numbered-other prices j k level (pos 0) t.1) (omega (arith, ints))
  ]

entry_rises : (eps own p q a x y : ℤ) → q ≡ p → x ≤ℤ y → (a +ℤ p) ≤ℤ (own +ℤ x +ℤ eps) → (a +ℤ q) ≤ℤ (own +ℤ y +ℤ eps)
entry_rises eps own p q a x y same up worth = omega (arith, ints)

-- prices that rise keep the slackness of an object whose price stays
pub slack_rises : (eps : ℤ) (low high : List ℤ) (row : Listing) (j : ℕ) → IsBelow low high →
    price_of high j ≡ price_of low j → HasSlack eps low row j → HasSlack eps high row j
slack_rises eps low high row j below same slack =
    All-weaker (IsWorth eps low row j) (IsWorth eps high row j)
    (λ e worth. entry_rises eps (listed_or_zero row j) (price_of low j) (price_of high j) e.1 (price_of low e.0)
    (price_of high e.0) same (below.each e.0) worth) row slack
