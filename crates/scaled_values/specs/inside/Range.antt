-- The range of some benefits, as it widens.
use Rattle.std.specs.Prelude.{ℤ, neg_ℤ, List, fold}
use Rattle.std.specs.Int.{int_max, int_min}
use Rattle.scaled_values.specs.declared.range.Range.{Range}
use Rattle.scaled_values.specs.declared.range.TheConstants.{FAR}

-- the range of no benefits: its least is above any benefit, its greatest below any
abbrev pub no_range : Range
no_range = record { least = FAR; greatest = neg_ℤ FAR }

-- the range with one more benefit
abbrev pub widened : Range → ℤ → Range
widened range x = record { least = int_min range.least x; greatest = int_max range.greatest x }

-- the range with more benefits
abbrev pub range_with : Range → List ℤ → Range
range_with range xs = fold widened range xs

-- the range of the benefits of both
abbrev pub joined : Range → Range → Range
joined first second = record { least = int_min first.least second.least; greatest = int_max first.greatest second.greatest }
