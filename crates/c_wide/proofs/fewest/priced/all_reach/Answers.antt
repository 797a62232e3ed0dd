use Rattle.std.proofs.Common.{◌<◌, length, get_or, refl, subst, below_more, IsTrue}
use Rattle.std.proofs.lemmas.List.{get_or_default}
use Rattle.c_wide.specs.declared.fewest.tight.Tight.{Tight}
use Rattle.c_wide.specs.fewest.Priced.{HasLevel}
use Rattle.c_wide.proofs.fewest.priced.all_reach.Goals as goal

pub loop-k-preserved : goal.loop-k-preserved
loop-k-preserved c = λ q d lt.
    let k = c.loop-k.k in
    let tight = c.args.tight.now in
    let Has : Tight → Type 0 = HasLevel c.args.priced c.args.levels.now in
    let yes : IsTrue c.reaches.result = rw c.if-not-reaches.false refl in
    let room : k < length tight = c.loop-k-test.true in
    let own : Has (get_or tight k d) = subst Has (get_or_default tight k _ d room) (c.reaches.ensures yes) in
    below_more (λ p. Has (get_or tight p d)) k (λ p below. c.loop-k.invariant p d below) own q lt
