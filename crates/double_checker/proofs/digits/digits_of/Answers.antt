use mathlib.Core.Path.{sym, subst}
use lib.Dec.{T}
use Rattle.double_checker.proofs.Finite.{no_nan}
use Rattle.double_checker.proofs.DigitsOf.{digits_small, digits_large}
use Rattle.double_checker.proofs.digits.digits_of.Goals as goal

pub float_to_bits-bits : goal.float_to_bits-bits
float_to_bits-bits c = no_nan c.args.x c.requires

pub returns-then-field-eq0 : goal.returns-then-field-eq0
returns-then-field-eq0 c = digits_small c.args.x (subst T (sym c.well_formed.0.1) tt) c.requires c.if-field-eq0.true

pub returns-else-field-eq0 : goal.returns-else-field-eq0
returns-else-field-eq0 c = digits_large c.args.x (subst T (sym c.well_formed.0.1) tt) c.requires c.if-field-eq0.false
