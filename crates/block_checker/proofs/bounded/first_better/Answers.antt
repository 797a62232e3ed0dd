use Rattle.block_checker.proofs.BoundedRows.{bounded_by_least, bounded_unless}
use Rattle.block_checker.proofs.bounded.first_better.Goals as goal

pub returns-then-all_reach : goal.returns-then-all_reach
returns-then-all_reach c =
    let l = c.args.lists.now in
    bounded_by_least l.sense l.rows c.args.prices.now c.args.numbers.now c.args.least.now c.requires.least c.requires.persons
    (c.all_reach.ensures c.if-all_reach.true)

pub returns : goal.returns
returns c =
    let l = c.args.lists.now in
    bounded_unless l.sense l.rows c.args.prices.now c.args.numbers.now _ c.first_under_value.result c.first_under_value.ensures
