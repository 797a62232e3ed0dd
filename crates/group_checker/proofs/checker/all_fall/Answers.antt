use Rattle.group_checker.proofs.Reading.{all_fall, pairs_read, rows_read}
use Rattle.group_checker.proofs.checker.all_fall.Goals as goal

pub returns-in-Dense : goal.returns-in-Dense
returns-in-Dense c =
    let l = c.args.lists.now in
    (λ yes. all_fall l c.args.plan c.requires
    (rows_read l c.args.plan c.requires c.in-Dense.costs.now c.in-Dense.ensures.given.costs c.in-Dense.ensures.rows (c.rows_fall.ensures yes))
    (c.all_fall_out.ensures c.if-not-all_fall_out.false))

pub returns-in-Listed : goal.returns-in-Listed
returns-in-Listed c =
    let l = c.args.lists.now in
    (λ yes. all_fall l c.args.plan c.requires
    (pairs_read l c.args.plan c.requires c.in-Listed.pairs c.in-Listed.ensures.given.costs c.in-Listed.ensures.rows (c.pairs_fall.ensures yes))
    (c.all_fall_out.ensures c.if-not-all_fall_out.false))
