-- Parts of the assignments, each with a plan that is the best of it.
use Rattle.std.specs.Prelude.{◌≡◌, ℕ, ℤ, pos, ◌<◌, ◌+◌, ◌-◌, ◌+ℤ◌, ◌-ℤ◌, List, Bool, true, false, IsTrue, length, slice_index_or}
use Rattle.assign_core.specs.declared.sense.Sense.{Sense}
use Rattle.assign_core.specs.Rows.{Listing}
use Rattle.assign_core.specs.Assignment.{AreListed, IsAssignment, IsNoWorse, total}
use Rattle.cost_lists.specs.Exact.{IsOptimum}
use Rattle.cost_lists.specs.ListedCosts.{AreInLimits, ListedCosts}
use Rattle.cost_lists.specs.Own.{minimised}
use Rattle.plan_checker.specs.declared.rank.TheConstants.{NO_BOUND}
use Rattle.plan_checker.specs.Ranks.{AreRanked}
use Rattle.ranking_checker.specs.declared.tree.Tree.{Tree}
use Rattle.ranking_checker.specs.inside.Core.{AreLow}
use Rattle.ranking_checker.specs.inside.Trees.{leaf_of}
use Rattle.ranking_checker.specs.Ranking.{IsAmong, plan_of}

-- costs of a part: each assignment of low reduced costs that falls into the part is among them, at the same cost
pub record IsPart (bound : ℤ) (l : ListedCosts) (xs : List ℕ) (prices : List ℤ) (tree : Tree) (t : ℕ) (part : ListedCosts) : Type 0 where
  pub limits : AreInLimits part
  pub same : part.sense ≡ l.sense
  pub listed : (ys : List ℕ) → AreListed l.rows ys → leaf_of tree ys ≡ t → AreLow bound l xs prices ys → AreListed part.rows ys
  pub cost : (ys : List ℕ) → AreListed l.rows ys → leaf_of tree ys ≡ t → AreLow bound l xs prices ys → total part.rows ys ≡ total l.rows ys

-- and ranks show that its plan is best of the part, and each other one costs so much more
pub record IsShown (bound : ℤ) (l : ListedCosts) (xs : List ℕ) (prices : List ℤ) (tree : Tree) (t : ℕ) (margin : ℤ) : Type 0 where
  pub part : ListedCosts
  pub is : IsPart bound l xs prices tree t part
  pub own_prices : List ℤ
  pub optimum : IsOptimum part (plan_of tree.n t tree.plans.now) own_prices
  pub ranks : List ℤ
  pub count : ℕ
  pub others : List ℤ
  pub ranked : AreRanked true margin part (plan_of tree.n t tree.plans.now) own_prices ranks count others

-- each plan is an assignment, of this cost
pub record AreTotals (rows : List Listing) (tree : Tree) (totals : List ℤ) : Type 0 where
  pub long : length totals ≡ tree.count
  pub assigned : (t : ℕ) → t < tree.count → IsAssignment rows (plan_of tree.n t tree.plans.now)
  pub cost : (t : ℕ) → t < tree.count → slice_index_or totals t (pos 0) ≡ total rows (plan_of tree.n t tree.plans.now)

-- each plan lies in its own part
abbrev pub HaveParts : Tree → Type 0
HaveParts tree = (t : ℕ) → t < tree.count → leaf_of tree (plan_of tree.n t tree.plans.now) ≡ t

-- no cost is worse than the next one
abbrev pub Rise : Sense → List ℤ → Type 0
Rise sense totals = (t : ℕ) → t + 1 < length totals → IsNoWorse sense (slice_index_or totals t (pos 0)) (slice_index_or totals (t + 1) (pos 0))

-- how much more the last plan costs than plan t; without a bound where there are no others
abbrev pub margin_at : Sense → Bool → List ℤ → ℕ → ℤ
margin_at sense true totals t = NO_BOUND
margin_at sense false totals t = minimised sense (slice_index_or totals (length totals - 1) (pos 0)) -ℤ minimised sense (slice_index_or totals t (pos 0))

-- the reduced costs of assignments that cost at most so much more than the best are below this
abbrev pub bound_of : Bool → ℤ → ℤ
bound_of true excess = NO_BOUND
bound_of false excess = excess +ℤ pos 1

-- no other assignment costs less than the last plan; or there is none
pub record AreLeast (sense : Sense) (rows : List Listing) (tree : Tree) (is_all : Bool) : Type 0 where
  pub others : (ys : List ℕ) → IsAssignment rows ys → ¬ IsAmong tree.n tree.count tree.plans.now ys →
      IsNoWorse sense (total rows (plan_of tree.n (tree.count - 1) tree.plans.now)) (total rows ys)
  pub all : IsTrue is_all → (ys : List ℕ) → IsAssignment rows ys → IsAmong tree.n tree.count tree.plans.now ys
