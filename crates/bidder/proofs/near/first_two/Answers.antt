use Rattle.std.proofs.Common.{get_or, rules, SFits}
use Rattle.std.specs.Int.{w64}
use Rattle.std.proofs.lemmas.Int.{to_z-of_z}
use Rattle.bidder.proofs.Nears.{near_start}
use Rattle.bidder.proofs.near.first_two.Goals as goal

pub returns : goal.returns
returns c =
    let row = c.args.row.now in
    let narrow = c.args.narrow.now in
    let e = c.index-row-0-2.result in
    let g = c.index-row-1-2.result in
    let f : SFits w64 (get_or row 0 e).1 = search rules in
    let h : SFits w64 (get_or row 1 g).1 = search rules in
    let v : SFits w64 c.value_of-value.result = search rules in
    let w : SFits w64 c.value_of-second.result = search rules in
    let first = simp to_z-of_z at c.value_of-value.ensures in
    let next = simp to_z-of_z at c.value_of-second.ensures in
    near_start row narrow c.of_two.result c.index-row-0.result e c.index-row-1.result g c.requires.long
    (c.of_two.ensures narrow (get_or row 0 e).1 (get_or row 1 g).1
    (simp to_z-of_z first) (simp to_z-of_z next))
