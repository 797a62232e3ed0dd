use Rattle.group_checker.proofs.Reading.{pair_shown, row_shown}
use Rattle.group_checker.proofs.arrow.is_move.Goals as goal

pub returns-in-Dense : goal.returns-in-Dense
returns-in-Dense c =
    (λ yes. row_shown c.args.lists.now c.args.plan c.requires.plan c.in-Dense.costs.now c.in-Dense.ensures.given.costs c.in-Dense.ensures.rows
    c.args.place c.args.from c.args.to c.requires.object (c.is_shown_in_row.ensures yes))

pub returns-in-Listed : goal.returns-in-Listed
returns-in-Listed c =
    (λ yes. pair_shown c.args.lists.now c.args.plan c.requires.plan c.in-Listed.pairs c.in-Listed.ensures.given.costs c.in-Listed.ensures.rows
    c.args.place c.args.from c.args.to (c.is_shown_in_pairs.ensures yes))
