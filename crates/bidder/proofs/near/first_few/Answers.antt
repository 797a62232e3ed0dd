use Rattle.std.proofs.Common.{get_or, take, rules, SFits}
use Rattle.std.specs.Int.{w64}
use Rattle.std.proofs.lemmas.Int.{to_z-of_z}
use Rattle.bidder.proofs.Scans.{taken_below}
use Rattle.bidder.proofs.Nears.{near_on}
use Rattle.bidder.proofs.near.first_few.Goals as goal

pub loop-i-preserved : goal.loop-i-preserved
loop-i-preserved c =
    let row = c.args.row.now in
    let i = c.loop-i.i in
    let d = c.index-row-i.result in
    let e = c.index-row-i-in-loop-i.result in
    let narrow = c.args.narrow.now in
    let g : SFits w64 (get_or row i e).1 = search rules in
    let v : SFits w64 c.value_of.result = search rules in
    let worth = simp to_z-of_z at c.value_of.ensures in
    let step = simp to_z-of_z at c.with-near.ensures in
    near_on row narrow c.with-near.result i d e (search rules)
    (step (take i row) narrow (get_or row i e).1 c.loop-i.invariant (taken_below row i d c.requires.row.rising (search rules)) worth)
