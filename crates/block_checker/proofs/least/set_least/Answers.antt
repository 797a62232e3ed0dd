use Rattle.std.proofs.Common.{◌≡◌, ℕ, pos, ◌-◌, length, get_or, arith, sym, subst, ◌∙◌}
use Rattle.assign_core.specs.Dense.{rows_cut}
use Rattle.assign_core.specs.Numbered.{IsNumber}
use Rattle.assign_core.proofs.DenseRows.{length-rows_cut}
use Rattle.cost_lists.specs.Given.{rows_given}
use Rattle.cost_lists.specs.Source.{AreCosts, ArePairs, IsSource, rows_in, triples_in}
use Rattle.cost_lists.proofs.GivenRows.{length-rows_given}
use Rattle.block_checker.specs.Sums.{AreLeastSums}
use Rattle.block_checker.proofs.ListedSums.{if_any, numbers_least, on_ok, pair_least, row_least}
use Rattle.block_checker.proofs.least.set_least.Goals as goal

pub returns-in-Dense : goal.returns-in-Dense
returns-in-Dense c =
    let n : ℕ = length c.args.least.now in
    let prices = c.args.prices.now in
    let costs = c.in-Dense.costs.now in
    let rows = rows_cut (length prices) n costs in
    let same : length rows ≡ n = length-rows_cut (length prices) n costs in
    let kept = c.set_of_rows.auto.least in
    let are : AreCosts n (length prices) costs = subst (IsSource n (length prices)) c.in-Dense.is c.requires.given.costs in
    on_ok c.set_of_rows.result c.set_of_rows.ensures (λ found.
    subst (λ s. AreLeastSums c.args.sense (rows_in c.args.sense n (length prices) s) prices c.set_of_rows.new.least) (sym c.in-Dense.is)
    (numbers_least c.args.sense rows prices c.set_of_rows.new.least (kept ∙ sym same) (λ i number.
    let there = subst (λ k. IsNumber k i) same number in
    let first = there.first in
    let last = there.last in
    row_least c.args.sense costs prices n are i there (get_or c.set_of_rows.new.least (i - 1) (pos 0)) (found (i - 1) (omega arith)))))

pub returns-in-Listed : goal.returns-in-Listed
returns-in-Listed c =
    let n : ℕ = length c.args.least.now in
    let prices = c.args.prices.now in
    let pairs = c.in-Listed.pairs in
    let rows = rows_given c.args.sense (triples_in pairs) (length prices) 1 n in
    let same : length rows ≡ n = length-rows_given c.args.sense (triples_in pairs) (length prices) 1 n in
    let kept = c.set_of_pairs.auto.least in
    let are : ArePairs n (length prices) pairs = subst (IsSource n (length prices)) c.in-Listed.is c.requires.given.costs in
    if_any c.add_pairs.result (subst (λ s. AreLeastSums c.args.sense (rows_in c.args.sense n (length prices) s) prices c.set_of_pairs.new.least) (sym c.in-Listed.is)
    (numbers_least c.args.sense rows prices c.set_of_pairs.new.least (kept ∙ sym same) (λ i number.
    let there = subst (λ k. IsNumber k i) same number in
    let first = there.first in
    let last = there.last in
    pair_least c.args.sense pairs prices n are i there (get_or c.set_of_pairs.new.least (i - 1) (pos 0)) (c.set_of_pairs.ensures (i - 1) (omega arith)))))
