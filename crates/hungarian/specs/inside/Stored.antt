-- Plans and trees as they are stored: each list has a place for each number and a place 0.
use Rattle.std.specs.Prelude.{◌≡◌, ℕ, ℤ, ◌+◌, ◌<◌, ◌≤◌, ◌↔◌, List, length, Contains}
use Rattle.std.specs.List.Sorted.{IsStrictlyIncreasing}
use Rattle.cost_lists.specs.ListedCosts.{ListedCosts}
use Rattle.hungarian.specs.declared.plan.Plan.{Plan}
use Rattle.hungarian.specs.declared.tree.Tree.{Tree}
use Rattle.hungarian.specs.inside.Plans.{at, int_at, cost_at, IsPlan}
use Rattle.hungarian.specs.inside.Trees.{IsScanned, IsTree, IsOrder, IsEnded, IsClosed, IsRelaxed, IsFlip, IsFlipping, IsServed}

-- the lists of n persons and m objects
pub record IsPlanLong (n m : ℕ) (plan : Plan) : Type 0 where
  pub prices_long : length plan.prices.items ≡ m + 1
  pub owners_long : length plan.owners.items ≡ m + 1
  pub objects_long : length plan.objects.items ≡ n + 1

-- the lists of n persons and m objects
pub record IsTreeLong (n m : ℕ) (tree : Tree) : Type 0 where
  pub costs_long : length tree.to_objects.items ≡ m + 1
  pub predecessors_long : length tree.predecessors.items ≡ m + 1
  pub ranks_long : length tree.ranks.items ≡ m + 1
  pub persons_long : length tree.to_persons.items ≡ n + 1

-- the stored plan is one
pub record IsPlanned (l : ListedCosts) (plan : Plan) : Type 0 where
  pub long : IsPlanLong (length l.rows) l.m plan
  pub plan_is : IsPlan (cost_at l) (length l.rows) l.m (int_at plan.prices.items) (at plan.owners.items)
      (at plan.objects.items)

-- persons 1 to k have objects, and no others
pub record IsAssignedTo (k : ℕ) (objects : List ℕ) : Type 0 where
  pub assigned : (i : ℕ) → 0 < i → i ≤ k → 0 < at objects i
  pub fresh : (i : ℕ) → k < i → at objects i ≡ 0

-- the stored tree of person s over t objects
abbrev pub IsTreeOf : ListedCosts → Plan → ℕ → ℕ → ℤ → Tree → Type 0
IsTreeOf l plan s t D tree =
    IsTree (cost_at l) (int_at plan.prices.items) (at plan.owners.items) (at plan.objects.items) s t D
    (int_at tree.to_objects.items) (int_at tree.to_persons.items) (at tree.predecessors.items) (at tree.ranks.items)

-- the search of person s goes on after t objects
pub record IsSearching (l : ListedCosts) (plan : Plan) (s t : ℕ) (tree : Tree) : Type 0 where
  pub long : IsTreeLong (length l.rows) l.m tree
  pub distance : ℤ
  pub tree_is : IsTreeOf l plan s t distance tree
  pub order : IsOrder (length l.rows) (at plan.objects.items) (at tree.ranks.items) t tree.persons.items

-- the search of person s has ended with object e, or with none
pub record IsSearched (l : ListedCosts) (plan : Plan) (s : ℕ) (tree : Tree) (e : ℕ) : Type 0 where
  pub long : IsTreeLong (length l.rows) l.m tree
  pub ended : 0 < e → IsEnded (cost_at l) (length l.rows) l.m (int_at plan.prices.items) (at plan.owners.items)
      (at plan.objects.items) s e (int_at tree.to_objects.items) (int_at tree.to_persons.items)
      (at tree.predecessors.items) (at tree.ranks.items)
  pub closed : e ≡ 0 → IsClosed (cost_at l) (int_at plan.prices.items) (at plan.owners.items)
      (at plan.objects.items) s (int_at tree.to_objects.items) (int_at tree.to_persons.items)
      (at tree.predecessors.items) (at tree.ranks.items)

-- each object of a row is relaxed over person i, whose path costs w
abbrev pub AreRelaxed : ℕ → ℤ → List ℤ → List ℕ → List ℤ → List ℕ → List ℤ → List ℕ → Type 0
AreRelaxed i w row ranks d f d2 f2 =
    (k : ℕ) → k < length row → IsRelaxed i (int_at row k) w (at ranks k) (int_at d k) (at f k) (int_at d2 k) (at f2 k)

-- the lists have the scanned persons and objects
pub record AreScanned (s : ℕ) (ranks all persons objects : List ℕ) : Type 0 where
  pub persons_rise : IsStrictlyIncreasing persons
  pub objects_rise : IsStrictlyIncreasing objects
  pub each_person : (i : ℕ) → Contains persons i ↔ (i < length all) × IsScanned s (at all) (at ranks) i
  pub each_object : (j : ℕ) → Contains objects j ↔ (j < length ranks) × (0 < at ranks j)

-- with some costs and prices the path to object e may be flipped
pub record IsFlippable (owners objects predecessors ranks : List ℕ) (e : ℕ) : Type 0 where
  pub n : ℕ
  pub m : ℕ
  pub objects_long : length objects ≡ n + 1
  pub owners_long : length owners ≡ m + 1
  pub predecessors_long : length predecessors ≡ m + 1
  pub costs : ℕ → ℕ → ℤ
  pub prices : ℕ → ℤ
  pub first : ℕ
  pub flip : IsFlip costs prices n m (at owners) (at objects) first e (at predecessors) (at ranks)

-- the flipped path keeps the plan
abbrev pub FlipsTo : List ℕ → List ℕ → List ℕ → List ℕ → ℕ → List ℕ → List ℕ → Type 0
FlipsTo owners objects predecessors ranks e owners2 objects2 =
    (c : ℕ → ℕ → ℤ) (n m : ℕ) (p : ℕ → ℤ) (s : ℕ) →
    IsFlip c p n m (at owners) (at objects) s e (at predecessors) (at ranks) →
    IsPlan c n m p (at owners2) (at objects2) × IsServed s (at objects) (at objects2)

-- the path to object e is flipped to object h, with these owners and objects so far
abbrev pub FlipsFrom : List ℕ → List ℕ → List ℕ → List ℕ → ℕ → ℕ → List ℕ → List ℕ → Type 0
FlipsFrom owners objects predecessors ranks e h owners2 objects2 =
    (c : ℕ → ℕ → ℤ) (n m : ℕ) (p : ℕ → ℤ) (s : ℕ) →
    IsFlip c p n m (at owners) (at objects) s e (at predecessors) (at ranks) →
    IsFlipping c p n m (at owners) (at objects) s (at ranks) h (at owners2) (at objects2)
