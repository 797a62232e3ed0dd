-- The costs of persons' own objects: their range, and the mark above it.
use Rattle.std.proofs.Common.{ℕ, ℤ, pos, neg_ℤ, ◌<ℤ◌, ◌<◌, List, length, get_or, arith}
use Rattle.std.specs.List.{All}
use Rattle.std.proofs.lemmas.Int.{ints}
use Rattle.assign_core.specs.declared.sense.Sense.{Sense}
use Rattle.assign_core.specs.declared.sense.Sense.TheVariants.{Min, Max}
use Rattle.assign_core.specs.Rows.{Listing}
use Rattle.assign_core.specs.Assignment.{AreListed}
use Rattle.cost_lists.specs.Own.{minimised}
use Rattle.cost_lists.proofs.Owns.{own_within}
use Rattle.exact_checker.proofs.OwnMarks.{AreBelow, below_mark}
use Rattle.wide_checker.specs.declared.numbers.TheConstants.{UNLISTED}
use Rattle.wide_checker.specs.WideLimits.{HasWideCosts}
use Rattle.wide_checker.specs.WideNumbers.{IsInCosts}
use Rattle.wide_checker.specs.inside.Own.{AreWideOwn}

negated_in : (c : ℤ) → IsInCosts c → IsInCosts (neg_ℤ c)
negated_in c h = let low = h.least in let high = h.greatest in record { least = omega (arith, ints); greatest = omega (arith, ints) }

below : (c : ℤ) → IsInCosts c → (c <ℤ UNLISTED) × (neg_ℤ c <ℤ UNLISTED)
below c h = let low = h.least in let high = h.greatest in (omega (arith, ints), omega (arith, ints))

-- the costs of a list are below the mark when they are turned
pub wide_below : (sense : Sense) (costs : List ℤ) → All IsInCosts costs → (q : ℕ) → q < length costs → minimised sense (get_or costs q (pos 0)) <ℤ UNLISTED
wide_below Min costs each q lt = (below (get_or costs q (pos 0)) (each q (pos 0) lt)).0
wide_below Max costs each q lt = (below (get_or costs q (pos 0)) (each q (pos 0) lt)).1

pub wide_below_mark : (sense : Sense) (rows : List Listing) → All HasWideCosts rows → AreBelow UNLISTED sense rows
wide_below_mark sense rows each = below_mark UNLISTED IsInCosts sense rows below each

-- the own costs of listed objects are in range
pub wide_range : (sense : Sense) (rows : List Listing) (xs : List ℕ) (own : List ℤ) → AreWideOwn sense rows xs own →
    AreListed rows xs → All HasWideCosts rows → All IsInCosts own
wide_range sense rows xs own are listed costs = own_within {mark = UNLISTED} IsInCosts negated_in sense rows xs own are listed costs
