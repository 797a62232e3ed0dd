-- Pairs of low reduced cost.
use Rattle.std.specs.Prelude.{◌≡◌, ℕ, ℤ, pos, ◌+ℤ◌, ◌<ℤ◌, List, Some, Contains, length, slice_index_or}
use Rattle.assign_core.specs.Numbered.{IsNumber}
use Rattle.assign_core.specs.Rows.{listed_in, row_of}
use Rattle.cost_lists.specs.Blocks.{reduced_sum}
use Rattle.cost_lists.specs.ListedCosts.{ListedCosts}
use Rattle.block_checker.specs.inside.Reading.{IsRead}
use Rattle.plan_checker.specs.Ranks.{own_sum}
use Rattle.ranking_checker.specs.declared.pairs.Pair.{Pair}

abbrev pub pair : ℕ → ℕ → ℤ → Pair
pair i j c = record { person = i; object = j; cost = c }

-- the pair at a place
abbrev pub pair_at : List Pair → ℕ → Pair
pair_at ps k = slice_index_or ps k (pair 0 0 (pos 0))

-- pairs that are given, at these costs or better ones
abbrev pub AreGiven : ListedCosts → List Pair → Type 0
AreGiven l ps = (p : Pair) → Contains ps p → IsRead l.sense l.rows (length l.rows) l.m p.person p.object p.cost

-- given pairs, and among them each listed one whose reduced cost is below a bound
pub record AreCore (bound : ℤ) (l : ListedCosts) (xs : List ℕ) (prices : List ℤ) (ps : List Pair) : Type 0 where
  pub given : AreGiven l ps
  pub has : (i k : ℕ) (c : ℤ) → listed_in (row_of l.rows i) k ≡ Some c →
      reduced_sum l.sense prices k c <ℤ (own_sum l xs prices i +ℤ bound) → Contains ps (pair i k c)

-- the reduced costs of all pairs of an assignment are below a bound
abbrev pub AreLow : ℤ → ListedCosts → List ℕ → List ℤ → List ℕ → Type 0
AreLow bound l xs prices ys = (i : ℕ) → IsNumber (length l.rows) i → own_sum l ys prices i <ℤ (own_sum l xs prices i +ℤ bound)
