use Rattle.std.proofs.Common.{◌∙◌, arith}
use Rattle.hungarian.proofs.Columns.{dense_row_is, listed_row_is}
use Rattle.hungarian.proofs.row.set_row.Goals as goal

pub returns-in-Dense : goal.returns-in-Dense
returns-in-Dense c =
    dense_row_is c.args.lists.now c.args.person c.set_dense.new.row c.in-Dense.costs.now c.persons-n.ensures.rule
    c.requires.person
    c.in-Dense.ensures.rows c.in-Dense.ensures.given.costs.long
    (c.set_dense.auto.row ∙ c.clear.auto.row ∙ c.requires.long)
    (c.set_dense.ensures.first ∙ c.clear.ensures 0 (let a = c.clear.auto.row in let b = c.requires.long in omega arith))
    (rw (c.sense-sense.ensures, c.part.ensures, c.objects-m.ensures.count) at c.set_dense.ensures.costs)

pub returns-in_ok-costs-in-Listed : goal.returns-in_ok-costs-in-Listed
returns-in_ok-costs-in-Listed c =
    let found = c.in_ok-costs-in-Listed in
    listed_row_is c.args.lists.now c.args.person c.set_column.new.row found.costs.items c.in-Listed.pairs
    c.persons-n.ensures.rule
    c.in-Listed.ensures.given.costs c.in-Listed.ensures.rows
    (c.set_column.auto.row ∙ c.clear.auto.row ∙ c.requires.long)
    (c.set_column.ensures.first ∙ c.clear.ensures 0
    (let a = c.clear.auto.row in let b = c.requires.long in omega arith))
    (found.ensures.long ∙ c.objects-m.ensures.count)
    (rw (c.sense-sense.ensures, c.objects-m.ensures.count) at found.ensures.costs)
    (rw c.as_slice.ensures.value at c.set_column.ensures.costs)
