use Rattle.std.proofs.Common.{pos, below_more, get_or, rules, sym, ◌∙◌, SFits, w64}
use mathlib.Core.Bool.{true≢false}
use Rattle.std.proofs.lemmas.Int.{to_z-of_z}
use Rattle.plan_checker.proofs.pairs.pairs_rise.Goals as goal

pub returns-then-not-pair_rises : goal.returns-then-not-pair_rises
returns-then-not-pair_rises c =
    let f : SFits w64 (get_or c.args.pairs.costs.now c.loop-k.k (pos 0)) = search rules in
    let here = simp to_z-of_z at c.pair_rises.ensures in
    ((λ e. absurd (true≢false (sym e))), (λ all. absurd (true≢false (sym (here.1 (all c.loop-k.k c.loop-k-test.true)) ∙ c.if-not-pair_rises.true))))

pub loop-k-preserved : goal.loop-k-preserved
loop-k-preserved c =
    let f : SFits w64 (get_or c.args.pairs.costs.now c.loop-k.k (pos 0)) = search rules in
    let here = simp to_z-of_z at c.pair_rises.ensures in
    below_more _ _ c.loop-k.invariant (here.0 c.if-not-pair_rises.false)
