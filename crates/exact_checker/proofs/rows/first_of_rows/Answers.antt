use Rattle.std.proofs.Common.{ℕ, ℤ, List, pos, ◌<◌, ◌≤ℤ◌, ◌<ℤ◌, length, get_or, arith, rules, subst, SFits, w64}
use Rattle.std.proofs.lemmas.Int.{to_z-of_z}
use Rattle.cost_lists.specs.Source.{part_of}
use Rattle.cost_lists.proofs.CutRows.{part_fits, part_long}
use Rattle.exact_checker.specs.inside.Sums.{sum_at}
use Rattle.exact_checker.proofs.RowSums.{first_under_is, none_more, none_under}
use Rattle.exact_checker.proofs.rows.first_of_rows.Goals as goal

pub returns-in-Some : goal.returns-in-Some
returns-in-Some c =
    let i = c.loop-i.i in
    let j : ℕ = c.in-Some.j in
    let costs = c.args.costs.now in
    let prices = c.args.prices.now in
    let values = c.args.values.now in
    let v : SFits w64 (get_or values i (pos 0)) = search rules in
    let found = simp to_z-of_z at c.in-Some.ensures in
    let P : List ℤ → Type 0 = λ r. (j < length r) × (sum_at c.args.sense r prices j <ℤ get_or values i (pos 0)) ×
    ((q : ℕ) → q < j → get_or values i (pos 0) ≤ℤ sum_at c.args.sense r prices q) in
    let h : P (part_of (length prices) i costs) = subst P c.part-row.ensures found in
    let whole = part_long (length prices) i costs (part_fits (length values) (length prices) i costs c.requires.costs.long c.loop-i-test.true) in
    let lt = h.0 in
    first_under_is c.args.sense costs prices values c.requires.costs.long i j c.loop-i-test.true (omega arith) c.loop-i.invariant h.1 h.2

pub loop-i-preserved : goal.loop-i-preserved
loop-i-preserved c =
    let i = c.loop-i.i in
    let costs = c.args.costs.now in
    let prices = c.args.prices.now in
    let values = c.args.values.now in
    let v : SFits w64 (get_or values i (pos 0)) = search rules in
    let none = simp to_z-of_z at c.in_default.ensures in
    let P : List ℤ → Type 0 = λ r. (j : ℕ) → j < length r → get_or values i (pos 0) ≤ℤ sum_at c.args.sense r prices j in
    let h : P (part_of (length prices) i costs) = subst P c.part-row.ensures none in
    let whole = part_long (length prices) i costs (part_fits (length values) (length prices) i costs c.requires.costs.long c.loop-i-test.true) in
    none_more c.args.sense costs prices values i c.loop-i.invariant (λ j room. h j (omega arith))

pub returns : goal.returns
returns c = none_under c.args.sense c.args.costs.now c.args.prices.now c.args.values.now c.requires.costs.long c.loop-i.i c.loop-i.invariant c.loop-i-test.false
