use Rattle.std.proofs.Common.{◌≡◌, drop, map, ap, arith}
use Rattle.std.proofs.lemmas.List.{drop_all}
use Rattle.row_checker.specs.Leaves.{size}
use Rattle.row_checker.specs.Rows.{row_in}
use Rattle.row_checker.proofs.sums.size_of.Goals as goal

pub returns : goal.returns
returns c =
    let i = c.loop-multiple.multiple-index in
    let f = c.loop-multiple.invariant.1 in
    let h = c.loop-multiple.invariant.0 in
    let n : size (map row_in c.args.rows.now) (drop i c.args.multiples.now) ≡ 0 =
    ap (size (map row_in c.args.rows.now)) (drop_all i c.args.multiples.now
    (omega (arith, c.loop-multiple-test.false))) in
    omega arith
