-- Trees of plans: each plan but the first parts from an earlier one at a person, and each assignment falls into the part of
-- one plan.
use Rattle.std.specs.Prelude.{◌≡◌, ◌≢◌, ◌⊎◌, ℕ, zero, suc, ◌<◌, ◌-◌, ◌*◌, List, length, slice_index_or, All, not, ◌==◌, ◌&&◌, if◌then◌else◌}
use Rattle.assign_core.specs.Numbered.{IsNumber}
use Rattle.ranking_checker.specs.declared.tree.Tree.{Tree}
use Rattle.ranking_checker.specs.declared.limits.Closed.{Closed}
use Rattle.ranking_checker.specs.declared.pairs.Pair.{Pair}
use Rattle.ranking_checker.specs.Ranking.{plan_of}

-- lists of the right lengths, with places of plans and numbers of persons
pub record IsTree (tree : Tree) : Type 0 where
  pub some : 0 < tree.count
  pub plans_long : length tree.plans.now ≡ tree.count * tree.n
  pub parents_long : length tree.parents.now ≡ tree.count
  pub persons_long : length tree.persons.now ≡ tree.count
  pub parents_in : (u : ℕ) → 0 < u → u < tree.count → slice_index_or tree.parents.now u 0 < tree.count
  pub persons_in : (u : ℕ) → 0 < u → u < tree.count → IsNumber tree.n (slice_index_or tree.persons.now u 0)

-- the parent of plan u, and the person at which they part
abbrev pub parent_at : Tree → ℕ → ℕ
parent_at tree u = slice_index_or tree.parents.now u 0

abbrev pub person_at : Tree → ℕ → ℕ
person_at tree u = slice_index_or tree.persons.now u 0

-- the object of a person in a list of objects
abbrev pub object_in : List ℕ → ℕ → ℕ
object_in ys i = slice_index_or ys (i - 1) 0

-- the part of plan u, if these objects lie in its parent's and differ from the parent's at its person; else the
-- part before
abbrev pub next_leaf : Tree → List ℕ → ℕ → ℕ → ℕ
next_leaf tree ys u s =
    if (parent_at tree u == s) && not (object_in ys (person_at tree u) == object_in (plan_of tree.n s tree.plans.now) (person_at tree u)) then u else s

-- the part among those of the plans up to u
abbrev pub leaf_upto : Tree → List ℕ → ℕ → ℕ
leaf_upto tree ys zero = 0
leaf_upto tree ys (suc u) = next_leaf tree ys (suc u) (leaf_upto tree ys u)

-- the part among those of all plans
abbrev pub leaf_of : Tree → List ℕ → ℕ
leaf_of tree ys = leaf_upto tree ys (tree.count - 1)

-- objects obey limits: a person has the object that is kept for it, if one is, and no closed pair is one of theirs
pub record Obey (ys kept : List ℕ) (closed : List Closed) : Type 0 where
  pub keep : (k : ℕ) → (slice_index_or kept k 0 ≡ 0) ⊎ (slice_index_or ys k 0 ≡ slice_index_or kept k 0)
  pub avoid : All (λ c. object_in ys c.person ≢ c.object) closed

-- some objects that obey limits have the pair
abbrev pub CanHave : List ℕ → List Closed → Pair → Type 0
CanHave kept closed p = (ys : List ℕ) × Obey ys kept closed × (object_in ys p.person ≡ p.object)
