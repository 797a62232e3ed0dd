use Rattle.std.proofs.Common.{List, ℤ, arith, sym, subst, ap, ◌∙◌}
use Rattle.std.proofs.lemmas.List.Elements.{All-push}
use Rattle.assign_core.specs.Prices.{IsBelow}
use Rattle.assign_core.proofs.Matchings.{below_itself}
use Rattle.price_log.specs.History.{IsEarlier, table_at}
use Rattle.price_log.proofs.Histories.{today-at}
use Rattle.auction_tests.specs.declared.book.calls.Desk.{Desk}
use Rattle.auction_book.specs.Book.{prices_of}
use Rattle.auction_tests.proofs.book.calls.open_desks.Goals as goal

pub loop-preserved : goal.loop-preserved
loop-preserved c =
    let b = c.args.book.now in
    let desk : Desk = record { table = c.in_ok-table.table; version = c.version.result } in
    let table = c.in_ok-table.ensures ∙ c.prices.ensures.prices in
    let version = c.version.ensures.version in
    let below = subst (λ (t : List ℤ). IsBelow t (prices_of b)) (sym table) (below_itself (prices_of b)) in
    let earlier : IsEarlier b.log c.in_ok-table.table c.version.result = record {
      reached = omega arith;
      same = λ h. table ∙ sym (today-at b.log) ∙ ap (table_at b.log) (sym version);
      below = λ h. absurd (omega arith);
    } in
    rw c.in_ok-push.ensures.items (record {
      below = All-push (λ (d : Desk). IsBelow d.table (prices_of b)) c.loop.desks.items desk c.loop.invariant.below below;
      earlier = All-push (λ (d : Desk). IsEarlier b.log d.table d.version) c.loop.desks.items desk c.loop.invariant.earlier earlier;
    })
