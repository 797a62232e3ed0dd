-- The costs of persons' own objects, turned so that less is better.
use Rattle.std.specs.Prelude.{◌≡◌, ℕ, ℤ, pos, neg_ℤ, List, Option, None, Some, length}
use Rattle.assign_core.specs.declared.sense.Sense.{Sense}
use Rattle.assign_core.specs.declared.sense.Sense.TheVariants.{Min, Max}
use Rattle.assign_core.specs.Numbered.{IsNumber, numbered}
use Rattle.assign_core.specs.Rows.{Listing, listed_in, row_of}
use Rattle.cost_lists.specs.declared.numbers.TheConstants.{UNLISTED}

-- the cost as one to minimise
abbrev pub minimised : Sense → ℤ → ℤ
minimised Min cost = cost
minimised Max cost = neg_ℤ cost

-- a listed cost as one to minimise, or the mark of an unlisted object
abbrev pub turned_or : ℤ → Sense → Option ℤ → ℤ
turned_or mark sense None = mark
turned_or mark sense (Some cost) = minimised sense cost

abbrev pub turned_or_unlisted : Sense → Option ℤ → ℤ
turned_or_unlisted sense o = turned_or UNLISTED sense o

-- for each person the cost of its own object, turned, or the mark of an unlisted one
pub record AreOwnOr (mark : ℤ) (sense : Sense) (rows : List Listing) (xs : List ℕ) (own : List ℤ) : Type 0 where
  pub long : length own ≡ length rows
  pub each : (i : ℕ) → IsNumber (length rows) i → numbered own i (pos 0) ≡ turned_or mark sense (listed_in (row_of rows i) (numbered xs i 0))

abbrev pub AreOwnCosts : Sense → List Listing → List ℕ → List ℤ → Type 0
AreOwnCosts sense rows xs own = AreOwnOr UNLISTED sense rows xs own
