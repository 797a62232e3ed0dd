use Rattle.std.proofs.Common.{length, sym, subst}
use Rattle.std.specs.List.{All}
use Rattle.assign_core.specs.Benefits.{IsBenefit}
use Rattle.bidder.specs.Offers.{benefits_at}
use Rattle.bidder.proofs.Entries.{full_in_range}
use Rattle.candidates.proofs.Reading.{candidates_row}
use Rattle.candidates.proofs.lists.refill.Goals as goal

pub refill_full-requires-clause-benefits : goal.refill_full-requires-clause-benefits
refill_full-requires-clause-benefits c =
    full_in_range c.in-Full.benefits.now (subst (All (λ e. IsBenefit e.1)) (sym c.in-Full.ensures.entries) c.in-Full.ensures.rule.benefits)

pub refill_full-requires-clause-list : goal.refill_full-requires-clause-list
refill_full-requires-clause-list c =
    let s = c.args.scaled.now in
    rw c.requires.table (candidates_row (length s.problem) (benefits_at s c.args.person) c.args.prices.now c.args.list.now
    c.in-Full.ensures.rule c.requires.candidates)

pub refill-requires-clause-list : goal.refill-requires-clause-list
refill-requires-clause-list c =
    let s = c.args.scaled.now in
    rw c.requires.table (candidates_row (length s.problem) (benefits_at s c.args.person) c.args.prices.now c.args.list.now
    c.in-Pairs.ensures.rule c.requires.candidates)
