use Rattle.std.proofs.Common.{refl}
use Rattle.std.proofs.lemmas.Int.{to_z-of_z}
use Rattle.plan_checker.proofs.Parts.{reaching_rises}
use Rattle.plan_checker.proofs.rows.block_rises.Goals as goal

pub returns-then-all_reach : goal.returns-then-all_reach
returns-then-all_reach c =
    let s = c.ranges.sum in (
      (λ _. reaching_rises c.args.plan c.args.person c.args.row.now c.args.sum c.args.from _ c.requires.sum
          (simp to_z-of_z at (c.all_reach.ensures c.if-all_reach.true))),
      (λ _. refl),
    )
