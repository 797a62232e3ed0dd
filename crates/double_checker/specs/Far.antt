-- Numbers that are far apart in size.
use Rattle.std.specs.Prelude.{ℕ, ◌*◌, ◌^◌, ◌<◌, List, Contains}

-- one of these sizes is over 2 ^ 70 times as large as another, which isn't 0
pub record HasFar (sizes : List ℕ) : Type 0 where
  pub large : ℕ
  pub small : ℕ
  pub large_in : Contains sizes large
  pub small_in : Contains sizes small
  pub some : 0 < small
  pub far : small * 2 ^ 70 < large
