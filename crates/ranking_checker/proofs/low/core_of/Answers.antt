use Rattle.ranking_checker.proofs.CoreLaws.{core_from_pairs, core_from_rows}
use Rattle.ranking_checker.proofs.low.core_of.Goals as goal

pub returns-in_ok-core_of_rows-in-Dense : goal.returns-in_ok-core_of_rows-in-Dense
returns-in_ok-core_of_rows-in-Dense c =
    core_from_rows c.args.lists.now c.args.base c.requires.base c.requires.sense c.requires.own c.requires.optimum.assigned.listed
    c.in-Dense.costs.now c.in-Dense.ensures.given.costs c.in-Dense.ensures.rows _ c.in_ok-core_of_rows-in-Dense.ensures

pub returns-in_ok-core_of_pairs-in-Listed : goal.returns-in_ok-core_of_pairs-in-Listed
returns-in_ok-core_of_pairs-in-Listed c =
    core_from_pairs c.args.lists.now c.args.base c.requires.base c.requires.sense c.requires.own c.requires.optimum.assigned.listed
    c.in-Listed.pairs c.in-Listed.ensures.given.costs c.in-Listed.ensures.rows _ c.in_ok-core_of_pairs-in-Listed.ensures
