use Rattle.std.proofs.Common.{◌≡◌, ℕ, length, ap, sym, subst, rules, arith, ◌∙◌}
use Rattle.std.specs.List.{All}
use Rattle.assign_core.specs.Assignment.{AreListed}
use Rattle.assign_core.specs.Dense.{rows_cut}
use Rattle.assign_core.specs.Numbered.{IsNumber}
use Rattle.assign_core.proofs.DenseRows.{length-rows_cut}
use Rattle.cost_lists.specs.ListedCosts.{ListedCosts}
use Rattle.exact_checker.specs.Under.{IsUnder}
use Rattle.plan_repair.proofs.FullRows.{full_listed}
use Rattle.plan_repair.proofs.mended.accept.Goals as goal

pub total_if_best-requires-clause-values : goal.total_if_best-requires-clause-values
total_if_best-requires-clause-values c =
    let rows = ap (λ (l : ListedCosts). length l.rows) c.dense-lists.ensures ∙ length-rows_cut _ _ _ in
    let here = ap length c.as_slice-sums.ensures.value in
    let same = c.if-len-n.false in
    let is = c.len.ensures in
    omega arith

pub total_if_best-requires-clause-persons : goal.total_if_best-requires-clause-persons
total_if_best-requires-clause-persons c =
    let rows = ap (λ (l : ListedCosts). length l.rows) c.dense-lists.ensures ∙ length-rows_cut _ _ _ in
    let here = ap length c.as_slice-places.ensures.value in
    let same = c.if-len-n-2.false in
    let is = c.len-else-len-n.ensures in
    omega arith

pub total_if_best-requires-clause-listed : goal.total_if_best-requires-clause-listed
total_if_best-requires-clause-listed c =
    let xs = c.as_slice-places.result.now in
    let here = ap length c.as_slice-places.ensures.value in
    let same = c.if-len-n-2.false in
    let is = c.len-else-len-n.ensures in
    let long : length xs ≡ c.args.n = omega arith in
    let within : All (IsNumber c.args.m) xs = search rules in
    subst (λ (l : ListedCosts). AreListed l.rows xs) (sym c.dense-lists.ensures)
    (full_listed c.args.n c.args.m c.args.costs.now xs c.requires.long long within)

pub total_if_best-requires-clause-none_under : goal.total_if_best-requires-clause-none_under
total_if_best-requires-clause-none_under c =
    let values = c.as_slice-sums.result.now in
    let prices = c.as_slice-slice.result.now in
    let here = ap length c.as_slice-sums.ensures.value in
    let same = c.if-len-n.false in
    let is = c.len.ensures in
    let persons : length values ≡ c.args.n = omega arith in
    let here = ap length c.as_slice-slice.ensures.value in
    let same = c.if-len-m.false in
    let is = c.len-else-len-n-2.ensures in
    let objects : length prices ≡ c.args.m = omega arith in
    let None : ℕ → ℕ → Type 0 = λ m n. (i k : ℕ) → ¬ IsUnder c.args.sense (rows_cut m n c.args.costs.now) prices values i k in
    let first : None (length prices) (length values) = c.in_default.ensures.1 in
    let second : None c.args.m (length values) = subst (λ m. None m (length values)) objects first in
    let third : None c.args.m c.args.n = subst (λ n. None c.args.m n) persons second in
    subst (λ (l : ListedCosts). (i k : ℕ) → ¬ IsUnder l.sense l.rows prices values i k) (sym c.dense-lists.ensures) third
