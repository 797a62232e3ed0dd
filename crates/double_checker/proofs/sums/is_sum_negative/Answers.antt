use Rattle.std.proofs.Common.{◌≡◌, pos, ◌+ℤ◌, ◌-◌, ◌^◌, inl, refl, rules, arith, SFits}
use Rattle.std.specs.Int.{w128}
use Rattle.std.proofs.lemmas.Int.{ints, to_z-of_z}
use Rattle.double_costs.specs.Units.{units_of}
use Rattle.double_checker.specs.inside.Parts.{part_units}
use Rattle.double_checker.proofs.PartSums.{sign_told, tested_less}
use Rattle.double_checker.proofs.sums.is_sum_negative.Goals as goal

pub returns : goal.returns
returns c =
    let first = c.ordered-3.result.0 in
    let second = c.ordered-5.result.0 in
    let third = c.ordered-5.result.1 in
    let last = c.ordered-4.result.1 in
    let sum = c.joined-sum.result in
    let t1 = c.joined.ensures.tells (part_units first) (2 ^ 56) (omega arith) (omega arith) (inl refl) in
    let t2 = c.joined-2.ensures.tells (part_units first +ℤ part_units second) (2 ^ 56 - 2 ^ 53) (omega arith) (omega arith) t1 in
    let t3 = c.joined-sum.ensures.tells ((part_units first +ℤ part_units second) +ℤ part_units third) (2 ^ 56 - 2 ^ 53 - 2 ^ 53)
    (omega arith) (omega arith) t2 in
    let total = ((part_units first +ℤ part_units second) +ℤ part_units third) +ℤ part_units last in
    let n = sign_told (2 ^ 56 - 2 ^ 53 - 2 ^ 53 - 2 ^ 53) (((part_units first +ℤ part_units second) +ℤ part_units third) +ℤ part_units last)
    sum (omega arith) t3 in
    let t = tested_less sum.count (pos 0) in
    let f : SFits w128 c.joined-sum.result.count = search rules in
    let a = c.part_of.ensures.units in
    let b = c.part_of-2.ensures.units in
    let x = c.part_of-3.ensures.units in
    let y = c.part_of-4.ensures.units in
    let o1 = c.ordered.ensures.units in
    let o2 = c.ordered-2.ensures.units in
    let o3 = c.ordered-3.ensures.units in
    let o4 = c.ordered-4.ensures.units in
    let o5 = c.ordered-5.ensures.units in
    let e : ((part_units first +ℤ part_units second) +ℤ part_units third) +ℤ part_units last
    ≡ ((units_of c.args.a +ℤ units_of c.args.b) +ℤ units_of c.args.c) +ℤ units_of c.args.d = omega (arith, ints) in
    simp to_z-of_z (
      (λ h. let l = n.0 (t.0 h) in omega (arith, ints)),
      (λ h. t.1 (n.1 (omega (arith, ints)))),
    )
