use Rattle.std.proofs.Common.{sym, subst, rules, SFits}
use Rattle.std.specs.Int.{w128}
use Rattle.std.proofs.lemmas.Int.{to_z-of_z}
use Rattle.assign_core.specs.Prices.{IsBelow}
use Rattle.price_log.specs.History.{History, IsHistory, today}
use Rattle.price_log.proofs.Histories.{after_raise_is, after_raise_up, on_ok}
use Rattle.auction_tests.proofs.book.logs.raise_by_one.Goals as goal

pub returns-clause-below : goal.returns-clause-below
returns-clause-below c =
    let f : SFits w128 c.in-Some.level = search rules in
    let n = c.in-Some.ensures in
    on_ok c.raise.result (simp to_z-of_z at c.raise.ensures.ok)
    (λ e. subst (λ (l : History). IsBelow (today c.args.log.now) (today l)) (sym e)
    (after_raise_up c.args.log.now 1 c.in-Some.level n.object n.above n.price))

pub returns-clause-log : goal.returns-clause-log
returns-clause-log c =
    let f : SFits w128 c.in-Some.level = search rules in
    let n = c.in-Some.ensures in
    on_ok c.raise.result (simp to_z-of_z at c.raise.ensures.ok) (λ e. subst IsHistory (sym e)
    (after_raise_is c.args.log.now 1 c.in-Some.level n.log n.object n.above n.price))
