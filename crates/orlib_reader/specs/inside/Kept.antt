-- How the numbers of a dense text are kept: whole rows, and the row that is being filled.
use Rattle.std.specs.Prelude.{◌≡◌, ℕ, ◌<◌, ◌≤◌, ℤ, pos, List, [], ◌∷◌, ◌++◌, All, map, flat_map, length}
use Rattle.assign_core.specs.Rows.{Listing, IsCost, IsSize}
use Rattle.assign_core.specs.Dense.{row_from}

abbrev pub costs_of : Listing → List ℤ
costs_of row = map (λ e. e.1) row

abbrev pub kept_costs : List Listing → Listing → List ℤ
kept_costs rows row = flat_map costs_of rows ++ costs_of row

abbrev pub kept_numbers : ℕ → List Listing → Listing → List ℤ
kept_numbers n rows row = pos n ∷ kept_costs rows row

-- a row of the objects 1, 2, .., with none left out
abbrev pub HasNoGap : Listing → Type 0
HasNoGap row = row ≡ row_from 1 (costs_of row)

pub record IsFull (n : ℕ) (row : Listing) : Type 0 where
  pub no_gap : HasNoGap row
  pub count : length row ≡ n

pub record IsKept (n : ℕ) (rows : List Listing) (row : Listing) : Type 0 where
  pub size : IsSize n
  pub few : length rows ≤ n
  pub full : All (IsFull n) rows
  pub no_gap : HasNoGap row
  pub short : length row < n
  pub done : length rows ≡ n → row ≡ []
  pub costs : All IsCost (kept_costs rows row)
