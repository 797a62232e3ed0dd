-- The costs of persons' own objects, turned so that less is better.
use Rattle.std.specs.Prelude.{ℕ, ℤ, List, Option}
use Rattle.assign_core.specs.declared.sense.Sense.{Sense}
use Rattle.assign_core.specs.Rows.{Listing}
use Rattle.cost_lists.specs.Own.{AreOwnOr, turned_or}
use Rattle.wide_checker.specs.declared.numbers.TheConstants.{UNLISTED}

-- a listed cost as one to minimise, or the mark of an unlisted object
abbrev pub turned_or_marked : Sense → Option ℤ → ℤ
turned_or_marked sense o = turned_or UNLISTED sense o

-- for each person the cost of its own object, turned, or the mark of an unlisted one
abbrev pub AreWideOwn : Sense → List Listing → List ℕ → List ℤ → Type 0
AreWideOwn sense rows xs own = AreOwnOr UNLISTED sense rows xs own
