use Rattle.std.proofs.Common.{length, arith}
use Rattle.assign_core.specs.Dense.{row_from}
use Rattle.bidder.proofs.Scans.{full_rising}
use Rattle.bidder.proofs.Once.{best_two_same}
use Rattle.candidates.proofs.Full.{full_row}
use Rattle.candidates.proofs.Kept.{stay}
use Rattle.candidates.proofs.Reading.{candidates_row}
use Rattle.candidates.proofs.list.Candidates.refill_full.Goals as goal

pub best_two_listed-requires : goal.best_two_listed-requires
best_two_listed-requires c =
    candidates_row (length c.args.prices.now) (row_from 1 c.args.benefits.now) c.narrow.result.now c.read_full.new.self (full_row (length c.args.prices.now) c.args.benefits.now (omega (arith, c.requires.long)) c.requires.benefits) c.read_full.ensures

pub returns-in-Some-clause-candidates : goal.returns-in-Some-clause-candidates
returns-in-Some-clause-candidates c = stay (row_from 1 c.args.benefits.now) c.narrow.result.now c.args.prices.now c.read_full.new.self c.narrow.ensures.below c.read_full.ensures

pub returns-in-None-clause-candidates : goal.returns-in-None-clause-candidates
returns-in-None-clause-candidates c = stay (row_from 1 c.args.benefits.now) c.narrow.result.now c.args.prices.now c.read_full.new.self c.narrow.ensures.below c.read_full.ensures

pub returns-in-Some-clause-best : goal.returns-in-Some-clause-best
returns-in-Some-clause-best c = c.in-Some.ensures.best (row_from 1 c.args.benefits.now) (full_rising c.args.benefits.now)
    (stay (row_from 1 c.args.benefits.now) c.narrow.result.now c.args.prices.now c.read_full.new.self c.narrow.ensures.below c.read_full.ensures)

pub returns-in-Some-clause-only : goal.returns-in-Some-clause-only
returns-in-Some-clause-only c =
    best_two_same (row_from 1 c.args.benefits.now) c.args.prices.now c.in-Some.best (full_rising c.args.benefits.now) (c.in-Some.ensures.best (row_from 1 c.args.benefits.now) (full_rising c.args.benefits.now)
    (stay (row_from 1 c.args.benefits.now) c.narrow.result.now c.args.prices.now c.read_full.new.self c.narrow.ensures.below c.read_full.ensures))
