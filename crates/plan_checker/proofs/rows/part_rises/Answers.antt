use Rattle.std.proofs.Common.{pos, below_more, get_or, rules, sym, ◌∙◌, SFits, w64}
use mathlib.Core.Bool.{true≢false}
use Rattle.std.proofs.lemmas.Int.{to_z-of_z}
use Rattle.plan_checker.proofs.rows.part_rises.Goals as goal

pub returns-then-not-pair_rises : goal.returns-then-not-pair_rises
returns-then-not-pair_rises c =
    let f : SFits w64 (get_or c.args.row.now c.loop-j.j (pos 0)) = search rules in
    let here = simp to_z-of_z at c.pair_rises.ensures in (
      (λ e. absurd (true≢false (sym e))),
      (λ all. absurd (true≢false (sym (here.1 (all c.loop-j.j c.loop-j-test.true c.loop-j.auto.j)) ∙ c.if-not-pair_rises.true))),
    )

pub loop-j-preserved : goal.loop-j-preserved
loop-j-preserved c =
    let f : SFits w64 (get_or c.args.row.now c.loop-j.j (pos 0)) = search rules in
    let here = simp to_z-of_z at c.pair_rises.ensures in
    below_more _ _ c.loop-j.invariant (λ _. here.0 c.if-not-pair_rises.false)
