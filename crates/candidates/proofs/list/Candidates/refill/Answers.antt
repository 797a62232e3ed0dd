use Rattle.std.proofs.Common.{length}
use Rattle.bidder.proofs.Once.{best_two_same}
use Rattle.candidates.proofs.Kept.{stay}
use Rattle.candidates.proofs.Reading.{candidates_row}
use Rattle.candidates.proofs.list.Candidates.refill.Goals as goal

pub best_two_listed-requires : goal.best_two_listed-requires
best_two_listed-requires c =
    candidates_row (length c.args.prices.now) c.args.row.now c.narrow.result.now c.read_row.new.self c.requires.row c.read_row.ensures

pub returns-in-Some-clause-candidates : goal.returns-in-Some-clause-candidates
returns-in-Some-clause-candidates c = stay c.args.row.now c.narrow.result.now c.args.prices.now c.read_row.new.self c.narrow.ensures.below c.read_row.ensures

pub returns-in-None-clause-candidates : goal.returns-in-None-clause-candidates
returns-in-None-clause-candidates c = stay c.args.row.now c.narrow.result.now c.args.prices.now c.read_row.new.self c.narrow.ensures.below c.read_row.ensures

pub returns-in-Some-clause-best : goal.returns-in-Some-clause-best
returns-in-Some-clause-best c = c.in-Some.ensures.best c.args.row.now c.requires.row.rising
    (stay c.args.row.now c.narrow.result.now c.args.prices.now c.read_row.new.self c.narrow.ensures.below c.read_row.ensures)

pub returns-in-Some-clause-only : goal.returns-in-Some-clause-only
returns-in-Some-clause-only c =
    best_two_same c.args.row.now c.args.prices.now c.in-Some.best c.requires.row.rising (c.in-Some.ensures.best c.args.row.now c.requires.row.rising
    (stay c.args.row.now c.narrow.result.now c.args.prices.now c.read_row.new.self c.narrow.ensures.below c.read_row.ensures))
