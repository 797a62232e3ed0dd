-- Alternating paths from one person. A path's cost is the sum of its steps to objects less those of
-- its steps from objects to their owners.
use Rattle.std.specs.Prelude.{◌≡◌, ◌≢◌, ℕ, ℤ, pos, neg_ℤ, ◌+◌, ◌*◌, ◌+ℤ◌, ◌-ℤ◌, ◌≤ℤ◌, ◌<ℤ◌, ◌<◌, ◌≤◌, ◌⊎◌, List, length}
use Rattle.cost_lists.specs.declared.numbers.TheConstants.{UNLISTED}
use Rattle.cost_lists.specs.Exact.{IsPriceInLimits}
use Rattle.hungarian.specs.inside.Plans.{at, IsChosen, IsMatched, IsOwner, IsObject}

-- person i is the first, or the owner of a scanned object
abbrev pub IsScanned : ℕ → (ℕ → ℕ) → (ℕ → ℕ) → ℕ → Type 0
IsScanned s x r i = (i ≡ s) ⊎ (0 < r (x i))

-- the path to object k has the cost of the path to person i and one step more
pub record IsStep (c : ℕ → ℕ → ℤ) (d v : ℕ → ℤ) (i k : ℕ) : Type 0 where
  pub listed : c i k <ℤ UNLISTED
  pub sum : d k ≡ (v i +ℤ c i k)

-- a scanned object: the person before it was scanned earlier, it has an owner, and it is no farther
-- than the distance
pub record IsPassed (p : ℕ → ℤ) (o x : ℕ → ℕ) (t : ℕ) (D : ℤ) (d : ℕ → ℤ) (f r : ℕ → ℕ) (k : ℕ) : Type 0 where
  pub labelled : 0 < f k
  pub owned : 0 < o k
  pub later : r (x (f k)) < r k
  pub within : r k ≤ t
  pub near : (d k +ℤ p k) ≤ℤ D

-- an object that a scanned person lists has a path, which costs no more than over that person
pub record IsCovered (c : ℕ → ℕ → ℤ) (d v : ℕ → ℤ) (f : ℕ → ℕ) (i k : ℕ) : Type 0 where
  pub labelled : 0 < f k
  pub least : d k ≤ℤ (v i +ℤ c i k)

-- the object that person i was labelled through, and the object that the path to object k comes from
pub record IsLabelled (c : ℕ → ℕ → ℤ) (x : ℕ → ℕ) (s : ℕ) (d v : ℕ → ℤ) (f r : ℕ → ℕ) (k : ℕ) : Type 0 where
  pub scanned : IsScanned s x r (f k)
  pub step : IsStep c d v (f k) k

-- the paths from person s over t scanned objects at a distance of up to D: the costs d of the paths
-- to objects and v of those to persons, the person f before each object, and the ranks r of objects
pub record IsTree (c : ℕ → ℕ → ℤ) (p : ℕ → ℤ) (o x : ℕ → ℕ) (s t : ℕ) (D : ℤ) (d v : ℕ → ℤ) (f r : ℕ → ℕ) : Type 0 where
  pub some : 0 < s
  pub alone : x s ≡ 0
  pub start : v s ≡ pos 0
  pub nobody : r 0 ≡ 0
  pub labelled : (k : ℕ) → 0 < f k → IsLabelled c x s d v f r k
  pub covered : (i k : ℕ) → IsScanned s x r i → c i k <ℤ UNLISTED → IsCovered c d v f i k
  pub passed : (k : ℕ) → 0 < r k → IsPassed p o x t D d f r k
  pub waiting : (k : ℕ) → r k ≡ 0 → 0 < f k → D ≤ℤ (d k +ℤ p k)
  pub own : (i : ℕ) → 0 < r (x i) → IsStep c d v i (x i)
  pub close : (i q : ℕ) → IsScanned s x r i → IsScanned s x r q → (v i -ℤ v q) ≤ℤ pos (t * 2000000000000)

-- the scanned persons: each but the first has the object whose rank is the person's place
pub record IsOrder (n : ℕ) (x r : ℕ → ℕ) (t : ℕ) (persons : List ℕ) : Type 0 where
  pub long : length persons ≡ t + 1
  pub alone : x (at persons 0) ≡ 0
  pub some : (q : ℕ) → q ≤ t → 0 < at persons q
  pub within : (q : ℕ) → q ≤ t → at persons q ≤ n
  pub ranked : (q : ℕ) → q ≤ t → r (x (at persons q)) ≡ q

-- what was known of an object stays
pub record IsKept (c w : ℤ) (rank : ℕ) (d : ℤ) (f : ℕ) (d2 : ℤ) (f2 : ℕ) : Type 0 where
  pub cost : d2 ≡ d
  pub person : f2 ≡ f
  pub labelled : c <ℤ UNLISTED → rank ≡ 0 → 0 < f
  pub least : c <ℤ UNLISTED → rank ≡ 0 → d ≤ℤ (w +ℤ c)

-- an object gets a better path, over person i
pub record IsLowered (i : ℕ) (c w : ℤ) (rank : ℕ) (d : ℤ) (f : ℕ) (d2 : ℤ) (f2 : ℕ) : Type 0 where
  pub listed : c <ℤ UNLISTED
  pub unscanned : rank ≡ 0
  pub cost : d2 ≡ (w +ℤ c)
  pub person : f2 ≡ i
  pub better : 0 < f → d2 ≤ℤ d

-- one or the other
abbrev pub IsRelaxed : ℕ → ℤ → ℤ → ℕ → ℤ → ℕ → ℤ → ℕ → Type 0
IsRelaxed i c w rank d f d2 f2 = IsKept c w rank d f d2 f2 ⊎ IsLowered i c w rank d f d2 f2

-- object j waits for its scan
pub record IsWaiting (f r : ℕ → ℕ) (j : ℕ) : Type 0 where
  pub labelled : 0 < f j
  pub unscanned : r j ≡ 0

-- object z is the nearer of objects j and k; 0 is no object
pub record IsNearer (p d : ℕ → ℤ) (j k z : ℕ) : Type 0 where
  pub one : ((z ≡ j) × (0 < j)) ⊎ (z ≡ k)
  pub first : 0 < j → (d z +ℤ p z) ≤ℤ (d j +ℤ p j)
  pub second : (d z +ℤ p z) ≤ℤ (d k +ℤ p k)

-- no object that waits is nearer than object j
pub record IsNearest (p d : ℕ → ℤ) (f r : ℕ → ℕ) (j : ℕ) : Type 0 where
  pub waits : IsWaiting f r j
  pub least : (k : ℕ) → IsWaiting f r k → (d j +ℤ p j) ≤ℤ (d k +ℤ p k)

-- the cost of a path, with which a cost still fits 64 bits
pub record IsPathCost (d : ℤ) : Type 0 where
  pub least : neg_ℤ (pos 8388608000000000000) ≤ℤ d
  pub greatest : d ≤ℤ pos 8388608000000000000

-- the cost of a path that ends with a step to an object
pub record IsStepCost (d : ℤ) : Type 0 where
  pub least : neg_ℤ (pos 8388607000000000000) ≤ℤ d
  pub greatest : d ≤ℤ pos 8388607000000000000

-- object j, with its owner i, is scanned: both get their entries, and i's row is relaxed
pub record IsScan (c : ℕ → ℕ → ℤ) (t i j : ℕ) (d v : ℕ → ℤ) (f r : ℕ → ℕ) (d2 v2 : ℕ → ℤ) (f2 r2 : ℕ → ℕ) : Type 0 where
  pub rank : r2 j ≡ t + 1
  pub ranks : (k : ℕ) → k ≢ j → r2 k ≡ r k
  pub cost : v2 i ≡ (d j -ℤ c i j)
  pub costs : (q : ℕ) → q ≢ i → v2 q ≡ v q
  pub relaxed : (k : ℕ) → IsRelaxed i (c i k) (v2 i) (r2 k) (d k) (f k) (d2 k) (f2 k)

-- prices after a search that ends with object e
pub record IsRaised (p d : ℕ → ℤ) (r : ℕ → ℕ) (e : ℕ) (p2 : ℕ → ℤ) : Type 0 where
  pub scanned : (k : ℕ) → 0 < r k → p2 k ≡ (d e -ℤ d k)
  pub others : (k : ℕ) → r k ≡ 0 → p2 k ≡ p k

-- the person before object k on the path: the object is one of its cheapest, and its own object was
-- scanned earlier, or it is the first person
pub record IsBack (c : ℕ → ℕ → ℤ) (p : ℕ → ℤ) (n m : ℕ) (x : ℕ → ℕ) (s : ℕ) (f r : ℕ → ℕ) (k : ℕ) : Type 0 where
  pub some : 0 < f k
  pub last : f k ≤ n
  pub within : k ≤ m
  pub later : r (x (f k)) < r k
  pub first : x (f k) ≡ 0 → f k ≡ s
  pub ranked : 0 < x (f k) → 0 < r (x (f k))
  pub chosen : IsChosen c p (f k) k

-- with these prices the path to object e may be flipped
pub record IsFlip (c : ℕ → ℕ → ℤ) (p : ℕ → ℤ) (n m : ℕ) (o x : ℕ → ℕ) (s e : ℕ) (f r : ℕ → ℕ) : Type 0 where
  pub matched : IsMatched n m o x
  pub last : 0 < r e
  pub free : o e ≡ 0
  pub nobody : r 0 ≡ 0
  pub alone : x s ≡ 0
  pub own : (i : ℕ) → 0 < x i → IsChosen c p i (x i)
  pub steps : (k : ℕ) → 0 < r k → IsBack c p n m x s f r k
  pub priced : (k : ℕ) → IsPriceInLimits (p k)
  pub unowned : (k : ℕ) → o k ≡ 0 → p k ≡ pos 0

-- the path is flipped from its end to object h, which is given to its next person; o0 and x0 are the
-- owners and the objects before
pub record IsFlipping (c : ℕ → ℕ → ℤ) (p : ℕ → ℤ) (n m : ℕ) (o0 x0 : ℕ → ℕ) (s : ℕ) (r : ℕ → ℕ) (h : ℕ)
    (o x : ℕ → ℕ) : Type 0 where
  pub ranked : 0 < h → 0 < r h
  pub nothing : o 0 ≡ 0
  pub owned : (j : ℕ) → 0 < o j → j ≢ h → IsOwner n x (o j) j
  pub owning : (i : ℕ) → 0 < x i → IsObject m o i (x i)
  pub away : (i : ℕ) → 0 < x i → x i ≢ h
  pub chosen : (i : ℕ) → 0 < x i → IsChosen c p i (x i)
  pub same : (i : ℕ) → r (x0 i) < r h → x i ≡ x0 i
  pub kept : (i : ℕ) → 0 < x0 i → 0 < x i
  pub last : h ≡ 0 → 0 < x s
  pub fresh : (i : ℕ) → x0 i ≡ 0 → i ≢ s → x i ≡ 0
  pub unowned : (j : ℕ) → o j ≡ 0 → o0 j ≡ 0

-- a search over t objects labelled the unowned object e, which has the last rank
pub record IsEnded (c : ℕ → ℕ → ℤ) (n m : ℕ) (p : ℕ → ℤ) (o x : ℕ → ℕ) (s e : ℕ) (d v : ℕ → ℤ)
    (f r2 : ℕ → ℕ) : Type 0 where
  pub t : ℕ
  pub distance : ℤ
  pub r : ℕ → ℕ
  pub tree : IsTree c p o x s t distance d v f r
  pub near : IsNearest p d f r e
  pub before : t < n
  pub some : 0 < e
  pub last : e ≤ m
  pub free : o e ≡ 0
  pub rank : r2 e ≡ t + 1
  pub ranks : (k : ℕ) → k ≢ e → r2 k ≡ r k

-- a search ended where no object waits
pub record IsClosed (c : ℕ → ℕ → ℤ) (p : ℕ → ℤ) (o x : ℕ → ℕ) (s : ℕ) (d v : ℕ → ℤ) (f r : ℕ → ℕ) : Type 0 where
  pub t : ℕ
  pub distance : ℤ
  pub tree : IsTree c p o x s t distance d v f r
  pub none : (k : ℕ) → ¬ IsWaiting f r k

-- person s got an object, and nobody lost one
pub record IsServed (s : ℕ) (x0 x : ℕ → ℕ) : Type 0 where
  pub assigned : 0 < x s
  pub kept : (i : ℕ) → 0 < x0 i → 0 < x i
  pub fresh : (i : ℕ) → x0 i ≡ 0 → i ≢ s → x i ≡ 0
