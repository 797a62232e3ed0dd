use Rattle.std.proofs.lemmas.Int.{to_z-of_z}
use Rattle.group_checker.proofs.Parts.{exceeding_falls}
use Rattle.group_checker.proofs.rows.block_falls.Goals as goal

pub returns-then-all_exceed : goal.returns-then-all_exceed
returns-then-all_exceed c =
    let f = c.ranges.sum in
    (λ _. exceeding_falls c.args.plan c.args.row.now c.args.sum c.args.group c.args.from _ (simp to_z-of_z at (c.all_exceed.ensures c.if-all_exceed.true)))
