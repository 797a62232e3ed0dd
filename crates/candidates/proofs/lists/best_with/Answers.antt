use Rattle.std.proofs.Common.{length}
use Rattle.scaled_values.proofs.RowFacts.{benefit_row_is}
use Rattle.bidder.specs.Offers.{benefits_at}
use Rattle.bidder.proofs.Once.{best_two_same}
use Rattle.candidates.proofs.Reading.{candidates_row}
use Rattle.candidates.proofs.lists.best_with.Goals as goal

pub best_two_listed-requires : goal.best_two_listed-requires
best_two_listed-requires c =
    let s = c.args.scaled.now in
    rw c.requires.table (candidates_row (length s.problem) (benefits_at s c.args.person) c.args.prices.now c.args.list.now
    (benefit_row_is s c.args.person c.n-n.ensures.rule c.requires.person) c.requires.candidates)

pub returns-in-Some-clause-best : goal.returns-in-Some-clause-best
returns-in-Some-clause-best c =
    let s = c.args.scaled.now in
    c.in-Some.ensures.best (benefits_at s c.args.person) (benefit_row_is s c.args.person c.n-n.ensures.rule c.requires.person).rising
    c.requires.candidates

pub returns-in-Some-clause-only : goal.returns-in-Some-clause-only
returns-in-Some-clause-only c =
    let s = c.args.scaled.now in
    let rising = (benefit_row_is s c.args.person c.n-n.ensures.rule c.requires.person).rising in
    best_two_same (benefits_at s c.args.person) c.args.prices.now c.in-Some.best rising
    (c.in-Some.ensures.best (benefits_at s c.args.person) rising c.requires.candidates)
