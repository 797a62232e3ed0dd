use Rattle.std.proofs.Common.{◌-◌}
use Rattle.std.proofs.lemmas.List.Elements.{All-set, All-weaker}
use Rattle.assign_core.specs.Prices.{IsBelow}
use Rattle.assign_core.proofs.Matchings.{below_through}
use Rattle.price_log.specs.History.{IsEarlier}
use Rattle.price_log.proofs.Histories.{earlier_stays}
use Rattle.auction_tests.specs.declared.book.calls.Desk.{Desk}
use Rattle.auction_book.specs.Book.{prices_of}
use Rattle.auction_tests.proofs.book.calls.call_of.Goals as goal

pub invariant_of-trial-2 : goal.invariant_of-trial-2
invariant_of-trial-2 c =
    let b = c.args.trial.now.book in
    let new = c.call_by.new.book in
    let desks = c.args.trial.now.desks.items in
    let at = c.args.worker - 1 in
    let on = c.call_by.ensures.on in
    let log = c.invariant.ensures.log_ascends in
    record {
      below = All-set (λ (d : Desk). IsBelow d.table (prices_of new)) desks at c.call_by.new.desk c.call_by.ensures.below
          (All-weaker (λ (d : Desk). IsBelow d.table (prices_of b)) (λ (d : Desk). IsBelow d.table (prices_of new))
          (λ d h. below_through d.table (prices_of b) (prices_of new) h on.below) desks c.args.trial.now.below);
      earlier = All-set (λ (d : Desk). IsEarlier new.log d.table d.version) desks at c.call_by.new.desk c.call_by.ensures.earlier
          (All-weaker (λ (d : Desk). IsEarlier b.log d.table d.version)
          (λ (d : Desk). IsEarlier new.log d.table d.version)
          (λ d h. earlier_stays b.log new.log d.table d.version log on.log on.below h)
          desks c.args.trial.now.earlier);
    }
