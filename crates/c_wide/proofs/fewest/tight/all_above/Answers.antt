use Rattle.std.proofs.Common.{pos, below_more, get_or, rules, SFits, w64}
use Rattle.std.proofs.lemmas.Bool.{and_parts}
use Rattle.std.proofs.lemmas.Int.{to_z-of_z}
use Rattle.c_wide.proofs.fewest.tight.all_above.Goals as goal

pub loop-j-preserved : goal.loop-j-preserved
loop-j-preserved c = (λ yes.
    let j = c.loop-j.j in
    let both = and_parts c.is_above-all.result c.loop-j.all yes in
    let x : SFits w64 (get_or c.args.row.now j (pos 0)) = search rules in
    let y : SFits w64 (get_or c.args.prices.now j (pos 0)) = search rules in
    let range = c.ranges.value in
    let here = simp to_z-of_z at c.is_above-all.ensures in
    below_more _ _ (c.loop-j.invariant both.1) (λ low. simp to_z-of_z (here both.0)))
