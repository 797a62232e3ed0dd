use Rattle.std.proofs.Common.{arith}
use Rattle.report.proofs.NumeralLemmas.{digits_fit}
use Rattle.report.proofs.numerals.value_of.Goals as goal

pub overflow_mul-value : goal.overflow_mul-value
overflow_mul-value c = let f = digits_fit c.loop-b.value c.loop-b.b-index c.loop-b.invariant.bound
    (omega (arith, c.loop-b-test.true, c.requires)) in omega arith

pub overflow_add-value : goal.overflow_add-value
overflow_add-value c = let f = digits_fit c.loop-b.value c.loop-b.b-index c.loop-b.invariant.bound
    (omega (arith, c.loop-b-test.true, c.requires)) in omega (arith, c.type_inv.word c.loop-b.b-index)
