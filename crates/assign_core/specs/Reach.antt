-- Alternating walks: from a person to an object that it lists, from an object to its owner.
use Rattle.std.specs.Prelude.{◌≡◌, ℕ, List, [], ◌∷◌, Option, None, Some, IsSome, nat_eq}
use Rattle.std.specs.List.{IsDistinct}
use Rattle.assign_core.specs.Rows.{Listing, IsListed}
use Rattle.assign_core.specs.Matching.{owner_of}

-- from person i to person x: each object is listed by the person before it and owned by the next
-- person
abbrev pub Walks : List Listing → List (Option ℕ) → ℕ → List ℕ → ℕ → Type 0
Walks rows owners i [] x = i ≡ x
Walks rows owners i (j ∷ js) x =
    IsListed rows i j × (v : ℕ) × (owner_of owners j ≡ Some v) × Walks rows owners v js x

-- an alternating walk leads from person i to person x
abbrev pub IsReached : List Listing → List (Option ℕ) → ℕ → ℕ → Type 0
IsReached rows owners i x = (js : List ℕ) × Walks rows owners i js x

-- each object that a reached person lists is owned
abbrev pub IsBlocked : List Listing → List (Option ℕ) → ℕ → Type 0
IsBlocked rows owners i =
    (x j : ℕ) → IsReached rows owners i x → IsListed rows x j → IsSome (owner_of owners j)

-- an alternating walk from person i: it lists the first object, the owner of each object lists the
-- next one, and the last is unowned
abbrev pub Alternates : List Listing → List (Option ℕ) → ℕ → List ℕ → Type 0
Alternates rows owners i [] = ⊥
Alternates rows owners i (j ∷ []) = IsListed rows i j × (owner_of owners j ≡ None)
Alternates rows owners i (j ∷ k ∷ js) =
    IsListed rows i j × (v : ℕ) × (owner_of owners j ≡ Some v) × Alternates rows owners v (k ∷ js)

-- an alternating path from person i to an unowned object, without repeated objects
pub record IsPath (rows : List Listing) (owners : List (Option ℕ)) (i : ℕ) (js : List ℕ) : Type 0 where
  pub alternates : Alternates rows owners i js
  pub apart : IsDistinct nat_eq js
