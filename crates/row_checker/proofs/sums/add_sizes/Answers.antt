use Rattle.std.proofs.Common.{◌≡◌, ◌+◌, ◌-◌, ◌^◌, min, drop, ap, arith}
use Rattle.std.proofs.lemmas.Int.{to_z-of_z}
use Rattle.std.proofs.lemmas.List.{drop_all}
use Rattle.row_checker.specs.Leaves.{terms_size}
use Rattle.row_checker.proofs.sums.add_sizes.Goals as goal

pub returns : goal.returns
returns c =
    let m = c.ranges.times in
    let i = c.loop-term.term-index in
    let f = c.loop-term.invariant.1 in
    let h : min (c.loop-term.so_far + terms_size c.args.times (drop i c.args.terms.now)) (2 ^ 128 - 1) ≡ min
    (c.args.sum + terms_size c.args.times c.args.terms.now) (2 ^ 128 - 1) =
    simp to_z-of_z at c.loop-term.invariant.0 in
    let n : terms_size c.args.times (drop i c.args.terms.now) ≡ 0 =
    ap (terms_size c.args.times) (drop_all i c.args.terms.now (omega (arith, c.loop-term-test.false))) in
    omega arith
