-- Pairs that are right whatever else their rows take.
use Rattle.std.specs.Prelude.{◌≡◌, ℕ, ℤ, pos, ◌≤ℤ◌, List, Bool, false, slice_index_or}
use Rattle.count_checker.specs.declared.lists.CountLists.{CountLists}
use Rattle.count_checker.specs.CountLists.{pair_at}
use Rattle.count_checker.specs.CountPrices.{rest_of}
use Rattle.count_checker.specs.CountFaults.{IsChosen}

-- the pair at the place leaves at most 0 if it is chosen, otherwise at least 0
pub record IsPairPlain (l : CountLists) (plan : List Bool) (r v : List ℤ) (k : ℕ) : Type 0 where
  pub chosen_most : IsChosen plan k → rest_of l.sense r v (pair_at l k) ≤ℤ pos 0
  pub open_least : slice_index_or plan k false ≡ false → pos 0 ≤ℤ rest_of l.sense r v (pair_at l k)
