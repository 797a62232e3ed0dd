-- Whether a pair may be written after those that are.
use Rattle.std.specs.Prelude.{◌≡◌, ◌⊎◌, ℕ, ◌-◌, ◌<◌, ◌≤◌, List, length, slice_index_or}
use Rattle.block_doubles.specs.Pairs.{IsLower}

-- there is room after the first pairs, which have fewer than so many of the person, and the last one is lower
pub record IsNext (persons objects : List ℕ) (most count i j : ℕ) : Type 0 where
  pub room : count < length persons
  pub some : 0 < most
  pub few : most ≤ count → slice_index_or persons (count - most) 0 < i
  pub after : (count ≡ 0) ⊎ IsLower (slice_index_or persons (count - 1) 0) (slice_index_or objects (count - 1) 0) i j
