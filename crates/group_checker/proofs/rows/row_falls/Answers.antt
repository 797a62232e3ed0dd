use Rattle.std.proofs.Common.{◌≤◌, ◌≤ℤ◌, ◌+◌, pos, get_or, arith, rules, sym, subst, SFits, w64}
use Rattle.std.proofs.lemmas.Int.{to_z-of_z}
use Rattle.group_checker.specs.inside.Reading.{group_at, sum_to}
use Rattle.group_checker.proofs.Parts.{parts_fall}
use Rattle.group_checker.proofs.rows.row_falls.Goals as goal

pub returns : goal.returns
returns c = (λ yes j last up.
    let p = c.args.plan in
    let row = c.args.row.now in
    let s : SFits w64 c.own_sum-sum.result = search rules in
    let before = simp to_z-of_z at c.loop-at.invariant.falls in
    let after = simp to_z-of_z at (c.part_falls.ensures yes) in
    let falls = parts_fall p row c.own_sum-sum.result c.group_of-group.result c.loop-at.at _ before after in
    subst (λ g. group_at p (j + 1) ≤ g) c.group_of-group.ensures
    (falls j last (omega arith) (subst (λ t. sum_to p (j + 1) (get_or row j (pos 0)) ≤ℤ t) (sym c.own_sum-sum.ensures) up)))
