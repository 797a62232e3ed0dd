use Rattle.std.proofs.Common.{ℤ, ◌+ℤ◌, ◌≤ℤ◌, ◌↔◌, ◌^◌, IsTrue, arith, SFits}
use Rattle.std.specs.Int.{w128}
use Rattle.std.proofs.lemmas.Int.{ints, to_z-of_z}
use Rattle.std.proofs.lemmas.Float.{T_from_true}
use lib.Signed.{le_z}
use lib.Pow.{pow_pos}
use Rattle.double_checker.specs.inside.Sizes.{units_by}
use Rattle.double_checker.proofs.Scales.{sums_scaled, true_from}
use Rattle.double_checker.proofs.exact.is_sum_at_most.Goals as goal

pub tested : (x y : ℤ) → IsTrue (le_z x y) ↔ (x ≤ℤ y)
tested x y = ((λ h. record { le = T_from_true (le_z x y) h }), (λ h. true_from (le_z x y) h.le))

pub returns : goal.returns
returns c =
    let a = c.scaled.ensures in
    let b = c.scaled-2.ensures in
    let x = c.scaled-3.ensures in
    let y = c.scaled-4.ensures in
    let a0 = a.least in let a1 = a.greatest in
    let b0 = b.least in let b1 = b.greatest in
    let x0 = x.least in let x1 = x.greatest in
    let y0 = y.least in let y1 = y.greatest in
    let fa : SFits w128 c.scaled.result = omega (arith, ints, a0, a1) in
    let fb : SFits w128 c.scaled-2.result = omega (arith, ints, b0, b1) in
    let fx : SFits w128 c.scaled-3.result = omega (arith, ints, x0, x1) in
    let fy : SFits w128 c.scaled-4.result = omega (arith, ints, y0, y1) in
    let fs : SFits w128 (c.scaled.result +ℤ c.scaled-2.result) = omega (arith, ints, a0, a1, b0, b1) in
    let ft : SFits w128 (c.scaled-3.result +ℤ c.scaled-4.result) = omega (arith, ints, x0, x1, y0, y1) in
    let t = tested (c.scaled.result +ℤ c.scaled-2.result) (c.scaled-3.result +ℤ c.scaled-4.result) in
    let s = sums_scaled (2 ^ c.args.low) c.scaled.result c.scaled-2.result c.scaled-3.result c.scaled-4.result
    (units_by c.args.a) (units_by c.args.b) (units_by c.args.c) (units_by c.args.d) (pow_pos c.args.low)
    a.value b.value x.value y.value in
    simp to_z-of_z ((λ h. s.0 (t.0 h)), (λ h. t.1 (s.1 h)))
