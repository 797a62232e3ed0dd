use Rattle.std.proofs.Common.{arith}
use Rattle.std.proofs.lemmas.Int.{to_z-of_z}
use Rattle.exact_checker.proofs.rows.first_under.Goals as goal

pub returns : goal.returns
returns c =
    let f = c.ranges.value in
    let inv = simp to_z-of_z at c.loop-j.invariant in
    λ k lt. inv k (omega (arith, c.loop-j-test.false))
