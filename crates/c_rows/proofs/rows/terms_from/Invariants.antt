use Rattle.std.proofs.Common.{◌≡◌}
use Rattle.c_rows.specs.Lists.{terms_from}
use Rattle.c_rows.proofs.rows.terms_from.Given as goal

abbrev pub invariant-loop-i : goal.invariant-loop-i
invariant-loop-i l = l.terms.items ≡ terms_from l.variables l.coefficients l.from l.i
