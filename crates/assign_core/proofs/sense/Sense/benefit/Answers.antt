use Rattle.std.proofs.Common.{◌≡◌, ℕ, ℤ, pos, negsuc, ◌+◌, ◌+ℤ◌, ◌-ℤ◌, ◌*ℤ◌, arith, SFits, refl}
use Rattle.std.specs.Int.{w64}
use Rattle.std.proofs.lemmas.Int.{ints, to_z-of_z}
use Rattle.assign_core.specs.declared.sense.Sense.{Sense}
use Rattle.assign_core.specs.declared.sense.Sense.TheVariants.{Min, Max}
use Rattle.assign_core.specs.Rows.{IsCost, IsSize}
use Rattle.assign_core.specs.Benefits.{benefit}
use Rattle.assign_core.proofs.BenefitRows.{IsBenefit-benefit}
use Rattle.assign_core.proofs.sense.Sense.benefit.Goals as goal

-- the number of persons, one more, and its negation fit in 64 bits
record Scale (n : ℕ) (number : ℤ) : Type 0 where
  fits : SFits w64 number
  more : SFits w64 (number +ℤ pos 1)
  less : SFits w64 (pos 0 -ℤ (number +ℤ pos 1))
  least : pos 0 -ℤ (number +ℤ pos 1) ≡ negsuc n
  greatest : number +ℤ pos 1 ≡ pos (n + 1)

scale : (n : ℕ) (number : ℤ) → IsSize n → number ≡ pos n → Scale n number
scale n number size e =
    let few = size.few in
    record { fits = omega (arith, ints); more = omega (arith, ints); less = omega (arith, ints); least = omega (arith, ints); greatest = omega (arith, ints) }

product_fits : (sense : Sense) (n : ℕ) (cost : ℤ) → IsSize n → IsCost cost → SFits w64 (benefit sense n cost)
product_fits sense n cost size small =
    let range = IsBenefit-benefit sense n cost size small in
    let least = range.least in
    let greatest = range.greatest in
    omega (arith, ints)

pub overflow_add-scale : goal.overflow_add-scale
overflow_add-scale c =
    let s = scale c.args.n c.from-scale.result c.requires.size c.from-scale.ensures in
    let number = s.fits in
    simp to_z-of_z s.more

pub overflow_sub-result : goal.overflow_sub-result
overflow_sub-result c =
    let s = scale c.args.n c.from-scale.result c.requires.size c.from-scale.ensures in
    let number = s.fits in
    let more = s.more in
    simp to_z-of_z s.less

pub overflow_mul-result : goal.overflow_mul-result
overflow_mul-result c =
    let s = scale c.args.n c.from-scale.result c.requires.size c.from-scale.ensures in
    let number = s.fits in
    let more = s.more in
    let less = s.less in
    let cost = c.ranges.cost in
    simp to_z-of_z (rw s.least (product_fits Min c.args.n c.args.cost c.requires.size c.requires.cost))

pub overflow_mul-result-in-Max : goal.overflow_mul-result-in-Max
overflow_mul-result-in-Max c =
    let s = scale c.args.n c.from-scale.result c.requires.size c.from-scale.ensures in
    let number = s.fits in
    let more = s.more in
    let cost = c.ranges.cost in
    simp to_z-of_z (rw s.greatest (product_fits Max c.args.n c.args.cost c.requires.size c.requires.cost))

pub returns-in-Min-clause-value : goal.returns-in-Min-clause-value
returns-in-Min-clause-value c =
    let s = scale c.args.n c.from-scale.result c.requires.size c.from-scale.ensures in
    let number = s.fits in
    let more = s.more in
    let less = s.less in
    let cost = c.ranges.cost in
    let product : SFits w64 ((pos 0 -ℤ (c.from-scale.result +ℤ pos 1)) *ℤ c.args.cost) =
    rw s.least (product_fits Min c.args.n c.args.cost c.requires.size c.requires.cost) in
    simp to_z-of_z (rw (s.least, c.in-Min.is) refl)

pub returns-in-Min-clause-range : goal.returns-in-Min-clause-range
returns-in-Min-clause-range c = rw (returns-in-Min-clause-value c) (IsBenefit-benefit c.args.self c.args.n c.args.cost c.requires.size c.requires.cost)

pub returns-in-Max-clause-value : goal.returns-in-Max-clause-value
returns-in-Max-clause-value c =
    let s = scale c.args.n c.from-scale.result c.requires.size c.from-scale.ensures in
    let number = s.fits in
    let more = s.more in
    let cost = c.ranges.cost in
    let product : SFits w64 ((c.from-scale.result +ℤ pos 1) *ℤ c.args.cost) =
    rw s.greatest (product_fits Max c.args.n c.args.cost c.requires.size c.requires.cost) in
    simp to_z-of_z (rw (s.greatest, c.in-Max.is) refl)

pub returns-in-Max-clause-range : goal.returns-in-Max-clause-range
returns-in-Max-clause-range c = rw (returns-in-Max-clause-value c) (IsBenefit-benefit c.args.self c.args.n c.args.cost c.requires.size c.requires.cost)
