-- Rows with the objects that are given to them.
use Rattle.std.proofs.Common.{◌≡◌, ℕ, ◌<◌, ◌+◌, List, length, get_or, All, arith}
use Rattle.std.proofs.lemmas.List.Elements.{All-weaker, All-from_recursion}
use Rattle.assign_core.specs.Numbered.{IsNumber}
use Rattle.assign_core.specs.Rows.{Listing, IsRow, IsWithin, row_of}
use Rattle.assign_core.specs.Assignment.{AreListed}
use Rattle.assign_core.proofs.Listed.{object_within, objects_within}
use Rattle.assign_core.proofs.RowLemmas.{IsRow-row_of}
use Rattle.dual_checker.proofs.Worths.{own_listed}

-- the object at place i is one of m
pub own_within : (m : ℕ) (rows : List Listing) (xs : List ℕ) (i x : ℕ) → length xs ≡ length rows → All (IsRow m) rows → AreListed rows xs →
    i < length xs → x ≡ get_or xs i x → IsNumber m x
own_within m rows xs i x long each listed lt is =
    let row = IsRow-row_of m rows (i + 1) each (omega arith) (omega (arith, long)) in
    object_within m (row_of rows (i + 1)) x row.within (own_listed rows xs i x listed long lt is)

-- all given objects are among m
pub given_within : (m : ℕ) (rows : List Listing) (xs : List ℕ) → All (IsRow m) rows → AreListed rows xs → All (IsNumber m) xs
given_within m rows xs each listed =
    All-from_recursion (IsNumber m) xs (objects_within m rows xs (All-weaker (IsRow m) (IsWithin m) (λ r h. h.within) rows each) listed)
