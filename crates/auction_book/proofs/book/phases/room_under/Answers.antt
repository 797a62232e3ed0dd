use Rattle.std.proofs.Common.{pos, get_or, arith, rules, SFits}
use Rattle.std.specs.Int.{w128}
use Rattle.std.proofs.lemmas.Int.{ints, to_z-of_z}
use Rattle.auction_book.proofs.Floor.{room_more}
use Rattle.auction_book.proofs.book.phases.room_under.Goals as goal

pub loop-price-preserved : goal.loop-price-preserved
loop-price-preserved c =
    let f : SFits w128 c.args.top = c.ranges.top in
    let p : SFits w128 (get_or c.args.prices.now c.loop-price.price-index (pos 0)) = search rules in
    let few = c.gap-room.ensures.few in
    let most = c.loop-price.invariant.most in
    record {
      value = simp to_z-of_z (room_more c.args.top c.args.prices.now c.loop-price.price-index c.loop-price.room
          c.gap-room.result _ c.loop-price-test.true (simp to_z-of_z at c.gap-room.ensures.value)
          (simp to_z-of_z at c.loop-price.invariant.value));
      most = omega (arith, ints);
    }
