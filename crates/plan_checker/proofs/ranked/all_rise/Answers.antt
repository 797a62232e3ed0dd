use Rattle.plan_checker.proofs.Reading.{pairs_same, rows_same}
use Rattle.plan_checker.proofs.ranked.all_rise.Goals as goal

pub returns-in-Dense : goal.returns-in-Dense
returns-in-Dense c =
    let same = rows_same c.args.lists.now c.args.plan c.requires.plan c.requires.sense c.requires.own c.requires.optimum.assigned.listed
    c.in-Dense.costs.now c.in-Dense.ensures.given.costs c.in-Dense.ensures.rows in
    ((λ yes. same.0 (c.rows_rise.ensures.0 yes)), (λ rise. c.rows_rise.ensures.1 (same.1 rise)))

pub returns-in-Listed : goal.returns-in-Listed
returns-in-Listed c =
    let same = pairs_same c.args.lists.now c.args.plan c.requires.plan c.requires.sense c.requires.own c.requires.optimum.assigned.listed
    c.in-Listed.pairs c.in-Listed.ensures.given.costs c.in-Listed.ensures.rows in
    ((λ yes. same.0 (c.pairs_rise.ensures.0 yes)), (λ rise. c.pairs_rise.ensures.1 (same.1 rise)))
