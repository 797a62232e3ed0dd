use Rattle.std.proofs.Common.{arith, rules, SFits}
use Rattle.std.specs.Int.{w128}
use Rattle.std.proofs.lemmas.Int.{to_z-of_z}
use Rattle.std.proofs.lemmas.List.{length_push}
use Rattle.std.proofs.lemmas.List.Elements.{All-push}
use Rattle.assign_core.specs.Prices.{IsPrice}
use Rattle.auction_tests.proofs.bidding.table.Goals as goal

pub loop-value-preserved : goal.loop-value-preserved
loop-value-preserved c =
    let f : SFits w128 c.priced.result = search rules in
    let items = simp to_z-of_z at c.in_ok-push.ensures.items in
    let pushed = length_push c.loop-value.prices.items c.priced.result in
    record {
      long = rw items (omega (arith, pushed, c.loop-value.invariant.long));
      each = rw items (All-push IsPrice c.loop-value.prices.items c.priced.result c.loop-value.invariant.each c.priced.ensures);
    }
