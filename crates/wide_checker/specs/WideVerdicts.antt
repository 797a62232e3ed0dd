-- The meaning of each verdict on two lists, one of objects and one of prices.
use Rattle.std.specs.Prelude.{ℕ, ℤ, List}
use Rattle.cost_lists.specs.ListedCosts.{ListedCosts}
use Rattle.exact_checker.specs.declared.verdict.Verdict.{Verdict}
use Rattle.exact_checker.specs.Verdicts.{IsVerdictIn}
use Rattle.wide_checker.specs.WideNumbers.{IsInPrices}
use Rattle.wide_checker.specs.WideOptimum.{IsWideOptimum}

-- the first fault in the order of the variants, by the lowest number that has it, or Yes if there is
-- none
abbrev pub IsWideVerdict : ListedCosts → List ℕ → List ℤ → Verdict → Type 0
IsWideVerdict l xs prices v = IsVerdictIn IsInPrices IsWideOptimum l xs prices v
