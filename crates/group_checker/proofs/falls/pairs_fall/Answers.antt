use Rattle.std.proofs.Common.{pos, below_more, get_or, rules, SFits, w64}
use Rattle.std.proofs.lemmas.Int.{to_z-of_z}
use Rattle.group_checker.proofs.falls.pairs_fall.Goals as goal

pub loop-k-preserved : goal.loop-k-preserved
loop-k-preserved c =
    let f : SFits w64 (get_or c.args.pairs.costs.now c.loop-k.k (pos 0)) = search rules in
    let here = simp to_z-of_z at c.pair_falls.ensures in
    below_more _ _ c.loop-k.invariant (here c.if-not-pair_falls.false)
