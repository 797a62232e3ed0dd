use Rattle.std.proofs.Common.{arith}
use Rattle.count_checker.proofs.Slots.{rising_all}
use Rattle.count_checker.proofs.shortage.is_apart.Goals as goal

pub rival-requires-clause-rows : goal.rival-requires-clause-rows
rival-requires-clause-rows c = λ q lt. rising_all c.args.lists.rows.now c.requires.lists.rising q c.args.place (omega arith) c.requires.place
