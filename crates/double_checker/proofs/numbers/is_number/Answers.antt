use Rattle.double_checker.proofs.Finite.{number_above, number_not_above}
use Rattle.double_checker.proofs.numbers.is_number.Goals as goal

pub returns-then-x : goal.returns-then-x
returns-then-x c = number_above c.args.x c.if-x.true

pub returns-else-x : goal.returns-else-x
returns-else-x c = number_not_above c.args.x c.if-x.false
