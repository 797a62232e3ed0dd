-- Matchings, as the owner of each object.
use Rattle.std.specs.Prelude.{◌≡◌, ℕ, List, Option, None, Some, length}
use Rattle.assign_core.specs.Numbered.{numbered}
use Rattle.assign_core.specs.Rows.{Listing, IsListed}

-- the owner of object j, if there is one
abbrev pub owner_of : List (Option ℕ) → ℕ → Option ℕ
owner_of owners j = numbered owners j None

-- each owner lists its object, and owns no other
pub record IsMatching (rows : List Listing) (owners : List (Option ℕ)) : Type 0 where
  pub long : length owners ≡ length rows
  pub listed : (i j : ℕ) → owner_of owners j ≡ Some i → IsListed rows i j
  pub apart : (i j k : ℕ) → owner_of owners j ≡ Some i → owner_of owners k ≡ Some i → j ≡ k
