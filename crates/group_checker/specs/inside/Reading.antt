-- An optimum with numbers of its objects as it is read, and trees of arrows.
use Rattle.std.specs.Prelude.{◌≡◌, ◌≢◌, ◌↔◌, ◌⊎◌, ◌-◌, ◌+◌, ℕ, ℤ, pos, ◌+ℤ◌, ◌≤ℤ◌, ◌<ℤ◌, ◌<◌, ◌≤◌, List, Bool, true, false, length, slice_index_or, All, Contains, IsTrue}
use Rattle.assign_core.specs.Numbered.{IsMarked, IsNumber, numbered}
use Rattle.assign_core.specs.Rows.{IsCost}
use Rattle.cost_lists.specs.declared.source.Pairs.{Pairs}
use Rattle.cost_lists.specs.Exact.{IsOptimum, IsPriceInLimits}
use Rattle.cost_lists.specs.ListedCosts.{IsCount, ListedCosts}
use Rattle.cost_lists.specs.Own.{AreOwnCosts, minimised}
use Rattle.cost_lists.specs.Source.{part_of}
use Rattle.group_checker.specs.declared.plan.Plan.{Plan}
use Rattle.group_checker.specs.declared.tree.Tree.{Tree}
use Rattle.group_checker.specs.Groups.{IsArrow}

-- n persons' objects and costs, and prices, marks and numbers of m objects
pub record IsPlan (n m : ℕ) (p : Plan) : Type 0 where
  pub own_long : length p.own.now ≡ n
  pub objects_long : length p.objects.now ≡ n
  pub prices_long : length p.prices.now ≡ m
  pub owned_long : length p.owned.now ≡ m
  pub groups_long : length p.groups.now ≡ m
  pub own_in : All IsCost p.own.now
  pub objects_in : All (IsNumber m) p.objects.now
  pub prices_in : All IsPriceInLimits p.prices.now

-- it is an optimum of a problem; the objects that somebody has are marked
pub record IsPlanOf (l : ListedCosts) (p : Plan) : Type 0 where
  pub plan : IsPlan (length l.rows) l.m p
  pub few : IsCount l.m
  pub sense : p.sense ≡ l.sense
  pub own : AreOwnCosts l.sense l.rows p.objects.now p.own.now
  pub optimum : IsOptimum l p.objects.now p.prices.now
  pub marks : (j : ℕ) → IsMarked p.owned.now j ↔ Contains p.objects.now j

-- the object of person i
abbrev pub object_at : Plan → ℕ → ℕ
object_at p i = slice_index_or p.objects.now (i - 1) 0

-- the price of object j
abbrev pub price_at : Plan → ℕ → ℤ
price_at p j = slice_index_or p.prices.now (j - 1) (pos 0)

-- the number of object j, or of 0
abbrev pub group_at : Plan → ℕ → ℕ
group_at p j = numbered p.groups.now j p.out

-- the sum of person i's own cost and price, and of another object's
abbrev pub sum_at : Plan → ℕ → ℤ
sum_at p i = slice_index_or p.own.now (i - 1) (pos 0) +ℤ price_at p (object_at p i)

abbrev pub sum_to : Plan → ℕ → ℤ → ℤ
sum_to p k cost = minimised p.sense cost +ℤ price_at p k

-- if object k is as good for person i at this cost, its number isn't higher than the own one's
abbrev pub Falls : Plan → ℕ → ℕ → ℤ → Type 0
Falls p i k cost = sum_to p k cost ≤ℤ sum_at p i → group_at p k ≤ group_at p (object_at p i)

-- from one place of a row up to another each object costs more than a sum
abbrev pub AllExceed : Plan → List ℤ → ℤ → ℕ → ℕ → Type 0
AllExceed p row sum from to = (k : ℕ) → k < to → from ≤ k → sum <ℤ sum_to p (k + 1) (slice_index_or row k (pos 0))

-- or, if it is as good, its number isn't higher than this one
abbrev pub PartFalls : Plan → List ℤ → ℤ → ℕ → ℕ → ℕ → Type 0
PartFalls p row sum group from to =
    (k : ℕ) → k < to → from ≤ k → sum_to p (k + 1) (slice_index_or row k (pos 0)) ≤ℤ sum → group_at p (k + 1) ≤ group

-- the objects of a row of costs, of person i
abbrev pub RowFalls : Plan → ℕ → List ℤ → Type 0
RowFalls p i row = (j : ℕ) → j < length row → Falls p i (j + 1) (slice_index_or row j (pos 0))

-- all rows
abbrev pub RowsFall : Plan → List ℤ → Type 0
RowsFall p costs = (i : ℕ) → i < length p.own.now → RowFalls p (i + 1) (part_of (length p.prices.now) i costs)

-- the listed pairs
abbrev pub PairsFall : Plan → Pairs → Type 0
PairsFall p pairs =
    (q : ℕ) → q < length pairs.persons.now →
    Falls p (slice_index_or pairs.persons.now q 0) (slice_index_or pairs.objects.now q 0) (slice_index_or pairs.costs.now q (pos 0))

-- arrows to 0 and from it don't lead to a higher number
pub record FallsOut (owned : Bool) (price : ℤ) (group out : ℕ) : Type 0 where
  pub leavable : IsTrue owned → price ≡ pos 0 → group ≤ out
  pub unowned : ¬ IsTrue owned → out ≤ group

abbrev pub FallsOutAt : Plan → ℕ → Type 0
FallsOutAt p j = FallsOut (slice_index_or p.owned.now j false) (slice_index_or p.prices.now j (pos 0)) (slice_index_or p.groups.now j 0) p.out

-- person i, who has object x, has another object k that is as good at this cost
pub record IsShown (p : Plan) (x i k : ℕ) (cost : ℤ) : Type 0 where
  pub own : object_at p i ≡ x
  pub other : k ≢ x
  pub good : sum_to p k cost ≤ℤ sum_at p i

-- the pair at a place among rows, and among listed pairs
pub record IsShownInRow (p : Plan) (costs : List ℤ) (place x k : ℕ) : Type 0 where
  pub within : place < length p.own.now
  pub shown : IsShown p x (place + 1) k (slice_index_or (part_of (length p.prices.now) place costs) (k - 1) (pos 0))

pub record IsShownInPairs (p : Plan) (pairs : Pairs) (place x k : ℕ) : Type 0 where
  pub within : place < length pairs.persons.now
  pub object : slice_index_or pairs.objects.now place 0 ≡ k
  pub shown : IsShown p x (slice_index_or pairs.persons.now place 0) k (slice_index_or pairs.costs.now place (pos 0))

-- an arrow leads from a vertex to its neighbour, or from the neighbour
abbrev pub IsArrowOf : Bool → ListedCosts → Plan → ℕ → ℕ → Type 0
IsArrowOf true l p v u = IsArrow l p.objects.now p.prices.now v u
IsArrowOf false l p v u = IsArrow l p.objects.now p.prices.now u v

-- as many neighbours, places and depths as vertices
pub record IsTree (m : ℕ) (t : Tree) : Type 0 where
  pub neighbours_long : length t.neighbours.now ≡ m + 1
  pub places_long : length t.places.now ≡ m + 1
  pub depths_long : length t.depths.now ≡ m + 1

abbrev pub neighbour_at : Tree → ℕ → ℕ
neighbour_at t v = slice_index_or t.neighbours.now v 0

abbrev pub depth_at : Tree → ℕ → ℕ
depth_at t v = slice_index_or t.depths.now v 0

-- a vertex at depth 0 is the root of its group
pub record IsRoot (p : Plan) (t : Tree) (roots : List ℕ) (v : ℕ) : Type 0 where
  pub top : depth_at t v ≡ 0
  pub root : slice_index_or roots (group_at p v) 0 ≡ v

-- an arrow joins a vertex to one of its group nearer to the root
pub record IsJoined (forth : Bool) (l : ListedCosts) (p : Plan) (t : Tree) (v : ℕ) : Type 0 where
  pub vertex : neighbour_at t v ≤ l.m
  pub same : group_at p (neighbour_at t v) ≡ group_at p v
  pub nearer : depth_at t (neighbour_at t v) < depth_at t v
  pub arrow : IsArrowOf forth l p v (neighbour_at t v)

abbrev pub IsLinked : Bool → ListedCosts → Plan → Tree → List ℕ → ℕ → Type 0
IsLinked forth l p t roots v = IsRoot p t roots v ⊎ IsJoined forth l p t v
