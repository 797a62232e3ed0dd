use Rattle.std.proofs.Common.{length, map, ap, ◌∙◌}
use Rattle.assign_core.proofs.DenseRows.{length-rows_cut}
use Rattle.cost_lists.specs.Given.{triples_of}
use Rattle.cost_lists.specs.ListedCosts.{ListedCosts}
use Rattle.cost_lists.proofs.GivenRows.{length-rows_given}
use Rattle.wide_checker.specs.WideNumbers.{wide_value}
use Rattle.c_wide.proofs.judge.lists_of.Goals as goal

pub returns-in-Dense-clause-persons : goal.returns-in-Dense-clause-persons
returns-in-Dense-clause-persons c = ap (λ (l : ListedCosts). length l.rows) c.dense.ensures ∙ length-rows_cut _ _ _ ∙ c.requires.shape.persons

pub returns-in-Sparse-clause-persons : goal.returns-in-Sparse-clause-persons
returns-in-Sparse-clause-persons c =
    let g = c.input.inside in
    let shape = c.args.shape in
    let long = length-rows_given shape.sense (triples_of g.persons.now g.objects.now (map wide_value g.costs.now)) shape.m 1 shape.n in
    ap (λ (l : ListedCosts). length l.rows) c.sparse.ensures ∙ long ∙ c.requires.shape.persons
