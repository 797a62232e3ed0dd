use Rattle.std.proofs.Common.{◌∙◌, ap, length, sym}
use Rattle.cost_lists.specs.ListedCosts.{ListedCosts}
use Rattle.cost_lists.specs.Given.{triples_of}
use Rattle.cost_lists.proofs.GivenRows.{length-rows_given}
use Rattle.hungarian.proofs.Columns.{column_is, column_long}
use Rattle.hungarian.proofs.row.column.Goals as goal

pub own_costs-requires : goal.own_costs-requires
own_costs-requires c =
    let pairs = c.args.pairs in
    c.as_slice.ensures.len ∙ c.in_ok-persons.ensures.len
    ∙ sym (ap (λ (l : ListedCosts). length l.rows) c.sparse-lists.ensures
    ∙ length-rows_given c.args.sense
    (triples_of pairs.objects.now pairs.persons.now pairs.costs.now) c.args.n 1 c.args.m)

pub returns-clause-long : goal.returns-clause-long
returns-clause-long c =
    let same = c.in_ok-persons.ensures.items_if_clones_equal (λ y h. h) in
    column_long c.args.sense c.args.n c.args.m c.args.pairs c.args.person c.in_ok-costs.costs.items
    (rw (c.sparse-lists.ensures, c.as_slice.ensures.value, same) at c.in_ok-costs.ensures)

pub returns-clause-costs : goal.returns-clause-costs
returns-clause-costs c =
    let same = c.in_ok-persons.ensures.items_if_clones_equal (λ y h. h) in
    column_is c.args.sense c.args.n c.args.m c.args.pairs c.args.person c.in_ok-costs.costs.items c.requires.pairs
    (rw (c.sparse-lists.ensures, c.as_slice.ensures.value, same) at c.in_ok-costs.ensures)
