use Rattle.std.proofs.Common.{refl, IsTrue}
use Rattle.c_wide.proofs.TightPlans.{all_least}
use Rattle.c_wide.proofs.fewest.priced.are_least.Goals as goal

pub returns : goal.returns
returns c = λ yes.
    let low : IsTrue c.are_below.result = rw c.if-not-are_below.false refl in
    let near : IsTrue c.are_near.result = rw c.if-not-are_near.false refl in
    all_least c.args.priced c.args.by c.args.first.now c.args.values.now c.args.levels.now c.args.tight.now c.requires.first c.requires.values
    c.requires.tight (c.are_below.ensures low) (c.are_near.ensures near) (c.all_reach.ensures yes)
