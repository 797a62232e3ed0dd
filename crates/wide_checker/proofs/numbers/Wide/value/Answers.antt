use Rattle.std.proofs.Common.{arith}
use Rattle.std.proofs.lemmas.Int.{ints}
use Rattle.wide_checker.specs.WideNumbers.{wide_value}
use Rattle.wide_checker.proofs.numbers.Wide.value.Goals as goal

pub returns : goal.returns
unfolding wide_value
returns c = omega (arith, ints)
