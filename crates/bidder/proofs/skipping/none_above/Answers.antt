use Rattle.std.proofs.Common.{refl}
use Rattle.bidder.proofs.Lanes.{lanes_none}
use Rattle.bidder.proofs.skipping.none_above.Goals as goal

pub returns : goal.returns
returns c none = lanes_none c.args.benefits.now c.args.narrow.now c.args.from c.args.limit _ _ c.requires.room
    c.requires.long c.requires.benefits c.requires.narrow c.ranges.limit none (λ a b. refl) (λ a b. refl)
