-- Problems of ones as one-to-one problems.
use Rattle.std.specs.Prelude.{◌≡◌, length}
use Rattle.count_checker.specs.declared.lists.CountLists.{CountLists}
use Rattle.list_solver.specs.declared.state.SearchState.{SearchState}

-- a price for each column and an object for each row
pub record HasStateLengths (l : CountLists) (s : SearchState) : Type 0 where
  pub prices_long : length s.prices.items ≡ length l.column_least.now
  pub objects_long : length s.objects.items ≡ length l.row_least.now
