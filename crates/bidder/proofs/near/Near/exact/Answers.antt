use Rattle.std.proofs.Common.{◌≡◌, rules, SFits}
use Rattle.std.specs.Int.{w128, w64}
use Rattle.std.proofs.lemmas.Int.{to_z-of_z}
use Rattle.assign_core.specs.Prices.{price_of}
use Rattle.bidder.proofs.Nears.{near_exact}
use Rattle.bidder.proofs.near.Near.exact.Goals as goal

pub returns : goal.returns
returns c = λ row is.
    let narrow = c.args.narrow.now in
    let prices = c.args.prices.now in
    let near = c.args.self in
    let own : price_of narrow near.object ≡ price_of prices near.object = search rules in
    let other : price_of narrow near.other ≡ price_of prices near.other = search rules in
    let f : SFits w64 near.best = search rules in
    let g : SFits w64 near.second = search rules in
    let h : SFits w128 c.from.result = search rules in
    let k : SFits w128 c.from-2.result = search rules in
    let best : c.from.result ≡ near.best = search rules in
    let second : c.from-2.result ≡ near.second = search rules in
    simp to_z-of_z (rw (best, second) (near_exact row narrow prices near c.requires.narrow is own other))
