-- What alternating walks reach.
use Rattle.std.proofs.Common.{◌≡◌, ℕ, List, [], ◌∷◌, ◌++◌, Option, None, Some, IsSome, refl, rules, sym, subst}
use Rattle.assign_core.specs.Rows.{Listing, IsListed}
use Rattle.assign_core.specs.Matching.{owner_of}
use Rattle.assign_core.specs.Reach.{Walks, IsReached, IsBlocked, Alternates, IsPath}

-- one more step of a walk
walks_on : (rows : List Listing) (owners : List (Option ℕ)) (i : ℕ) (js : List ℕ) (x j v : ℕ) →
    Walks rows owners i js x → IsListed rows x j → owner_of owners j ≡ Some v → Walks rows owners i (js ++ j ∷ []) v
walks_on rows owners i [] x j v w l o = (subst (λ u. IsListed rows u j) (sym w) l, v, o, refl)
walks_on rows owners i (k ∷ js) x j v w l o = (w.0, w.1, w.2, walks_on rows owners w.1 js x j v w.3 l o)

pub reached_itself : (rows : List Listing) (owners : List (Option ℕ)) (i : ℕ) → IsReached rows owners i i
reached_itself rows owners i = ([], refl)

pub reached_on : (rows : List Listing) (owners : List (Option ℕ)) (i x j v : ℕ) → IsReached rows owners i x →
    IsListed rows x j → owner_of owners j ≡ Some v → IsReached rows owners i v
reached_on rows owners i x j v r l o = (r.0 ++ j ∷ [], walks_on rows owners i r.0 x j v r.1 l o)

walks_within : (P : ℕ → Type 0) (rows : List Listing) (owners : List (Option ℕ)) (i : ℕ) (js : List ℕ) (x : ℕ) →
    ((y j v : ℕ) → P y → IsListed rows y j → owner_of owners j ≡ Some v → P v) → P i → Walks rows owners i js x → P x
walks_within P rows owners i [] x on p w = subst P w p
walks_within P rows owners i (j ∷ js) x on p w = walks_within P rows owners w.1 js x on (on i j w.1 p w.0 w.2) w.3

-- what holds of the first person, and passes from a person to the owners of the objects it lists,
-- holds of each reached person
pub reached_within : (P : ℕ → Type 0) (rows : List Listing) (owners : List (Option ℕ)) (i x : ℕ) →
    ((y j v : ℕ) → P y → IsListed rows y j → owner_of owners j ≡ Some v → P v) → P i → IsReached rows owners i x → P x
reached_within P rows owners i x on p r = walks_within P rows owners i r.0 x on p r.1

-- a path ends in an unowned object, so its first person isn't blocked
open_walk : (rows : List Listing) (owners : List (Option ℕ)) (i x : ℕ) (js : List ℕ) → IsReached rows owners i x →
    Alternates rows owners x js → IsBlocked rows owners i → ⊥
open_walk rows owners i x [] r a b = a
open_walk rows owners i x (j ∷ []) r a b = none (owner_of owners j) a.1 (b x j r a.0) where
  none : (o : Option ℕ) → o ≡ None → IsSome o → ⊥
  none None e s = absurd (search rules)
  none (Some v) e s = cc
open_walk rows owners i x (j ∷ k ∷ js) r a b = open_walk rows owners i a.1 (k ∷ js) (reached_on rows owners i x j a.1 r a.0 a.2) a.3 b

pub path_open : (rows : List Listing) (owners : List (Option ℕ)) (i : ℕ) (js : List ℕ) → IsPath rows owners i js → IsBlocked rows owners i → ⊥
path_open rows owners i js p b = open_walk rows owners i i js (reached_itself rows owners i) p.alternates b
