use Rattle.std.proofs.Common.{length, ap, ◌∙◌}
use Rattle.assign_core.proofs.DenseRows.{length-rows_cut}
use Rattle.cost_lists.specs.Given.{triples_of}
use Rattle.cost_lists.specs.ListedCosts.{ListedCosts}
use Rattle.cost_lists.proofs.GivenRows.{length-rows_given}
use Rattle.count_checker.specs.declared.lists.CountLists.{CountLists}
use Rattle.c_counts.proofs.ones.costs_of.Goals as goal

pub returns-then-are_whole-clause-rows : goal.returns-then-are_whole-clause-rows
returns-then-are_whole-clause-rows c =
    let same = ap (λ (l : CountLists). length l.row_least.now) c.lists-lists.ensures.lists in
    ap (λ (l : ListedCosts). length l.rows) c.dense.ensures ∙ length-rows_cut _ _ _ ∙ same

pub returns-clause-rows : goal.returns-clause-rows
returns-clause-rows c =
    let l = c.lists-lists.result in
    let same = ap (λ (l : CountLists). length l.row_least.now) c.lists-lists.ensures.lists in
    let long = length-rows_given l.sense (triples_of l.rows.now l.columns.now l.costs.now) (length l.column_least.now) 1 (length l.row_least.now) in
    ap (λ (l : ListedCosts). length l.rows) c.sparse.ensures ∙ long ∙ same
