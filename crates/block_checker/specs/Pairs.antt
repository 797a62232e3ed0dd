-- Pairs that are better than their persons' own.
use Rattle.std.specs.Prelude.{◌≡◌, ℕ, ℤ, pos, ◌<ℤ◌, ◌<◌, ◌≤◌, List, Some, length, drop, slice_index_or}
use Rattle.assign_core.specs.declared.sense.Sense.{Sense}
use Rattle.assign_core.specs.Numbered.{numbered}
use Rattle.assign_core.specs.Rows.{Listing, listed_in, row_of}
use Rattle.assign_core.specs.Assignment.{IsNoWorse}
use Rattle.cost_lists.specs.Blocks.{reduced_sum}
use Rattle.cost_lists.specs.ListedCosts.{ListedCosts}

-- person i lists object j, at this cost or a better one
abbrev pub IsGivenAt : Sense → List Listing → ℕ → ℕ → ℤ → Type 0
IsGivenAt sense rows i j c = (d : ℤ) × (listed_in (row_of rows i) j ≡ Some d) × IsNoWorse sense d c

-- and the sum of this cost and the price is below the person's number
pub record IsBetterPair (l : ListedCosts) (prices numbers : List ℤ) (i j : ℕ) (c : ℤ) : Type 0 where
  pub given : IsGivenAt l.sense l.rows i j c
  pub under : reduced_sum l.sense prices j c <ℤ numbered numbers i (pos 0)

-- three lists as triples of a person, an object and a cost
pub record PairLists : Type 0 where
  pub persons : List ℕ
  pub objects : List ℕ
  pub costs : List ℤ

-- the first entries are pairs of this kind, and the others are those of before
pub record AreWritten (l : ListedCosts) (prices numbers : List ℤ) (count : ℕ) (before after : PairLists) : Type 0 where
  pub few : count ≤ length after.persons
  pub better : (q : ℕ) → q < count →
      IsBetterPair l prices numbers (slice_index_or after.persons q 0) (slice_index_or after.objects q 0) (slice_index_or after.costs q (pos 0))
  pub persons : drop count after.persons ≡ drop count before.persons
  pub objects : drop count after.objects ≡ drop count before.objects
  pub costs : drop count after.costs ≡ drop count before.costs
