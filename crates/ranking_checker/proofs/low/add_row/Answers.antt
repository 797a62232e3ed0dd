use Rattle.std.proofs.Common.{pos, get_or, rules, SFits, w64}
use Rattle.std.proofs.lemmas.Int.{to_z-of_z}
use Rattle.ranking_checker.specs.inside.Bases.{IsLow, row_pair}
use Rattle.ranking_checker.proofs.AddLaws.{none_yet, one_more}
use Rattle.ranking_checker.proofs.low.add_row.Goals as goal

pub loop-j-init : goal.loop-j-init
loop-j-init c = none_yet (IsLow c.args.base) (row_pair c.args.person c.args.row.now) c.args.pairs.now.items

pub loop-j-preserved : goal.loop-j-preserved
loop-j-preserved c =
    let f : SFits w64 (get_or c.args.row.now c.loop-j.j (pos 0)) = search rules in
    let added = simp to_z-of_z at c.in_ok-add_low.ensures in
    one_more (IsLow c.args.base) (row_pair c.args.person c.args.row.now) c.loop-j.j c.args.pairs.now.items c.loop-j.pairs.items c.add_low.new.pairs.items
    c.loop-j.invariant added
