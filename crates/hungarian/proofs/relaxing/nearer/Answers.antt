use Rattle.std.proofs.Common.{pos, ◌+ℤ◌, get_or, arith, refl, rules, inl, inr, SFits, w64}
use Rattle.std.proofs.lemmas.Int.{ints, to_z-of_z}
use Rattle.hungarian.proofs.Relaxed.{at_least}
use Rattle.hungarian.proofs.relaxing.nearer.Goals as goal

pub returns-then-is_nearer-clause-nearer : goal.returns-then-is_nearer-clause-nearer
returns-then-is_nearer-clause-nearer c =
    let d = c.args.to_objects.now in
    let p = c.args.prices.now in
    let a1 : SFits w64 (get_or d c.args.other (pos 0)) = search rules in
    let a2 : SFits w64 (get_or p c.args.other (pos 0)) = search rules in
    let a3 : SFits w64 (get_or d c.args.best (pos 0)) = search rules in
    let a4 : SFits w64 (get_or p c.args.best (pos 0)) = search rules in
    let is = simp to_z-of_z at c.is_nearer.ensures in
    let less = is.0 c.if-is_nearer.true in
    record { one = inr refl; first = λ some. omega (arith, ints); second = omega (arith, ints) }

pub returns-else-is_nearer-clause-nearer : goal.returns-else-is_nearer-clause-nearer
returns-else-is_nearer-clause-nearer c =
    let d = c.args.to_objects.now in
    let p = c.args.prices.now in
    let a1 : SFits w64 (get_or d c.args.other (pos 0)) = search rules in
    let a2 : SFits w64 (get_or p c.args.other (pos 0)) = search rules in
    let a3 : SFits w64 (get_or d c.args.best (pos 0)) = search rules in
    let a4 : SFits w64 (get_or p c.args.best (pos 0)) = search rules in
    let is = simp to_z-of_z at c.is_nearer.ensures in
    let most = at_least c.is_nearer.result (get_or d c.args.other (pos 0) +ℤ get_or p c.args.other (pos 0))
    (get_or d c.args.best (pos 0) +ℤ get_or p c.args.best (pos 0)) is c.if-is_nearer.false in
    record { one = inl (refl, omega arith); first = λ some. omega (arith, ints); second = most }
