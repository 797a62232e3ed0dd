use mathlib.Core.Path.{sym, subst}
use lib.Dec.{T}
use Rattle.double_checker.proofs.Finite.{no_nan}
use Rattle.double_checker.proofs.DigitsOf.{digits_small, digits_large}
use Rattle.c_wide.proofs.UnitLaws.{parts_from}
use Rattle.c_wide.proofs.exact.parts.parts_of.Goals as goal

pub float_to_bits-bits : goal.float_to_bits-bits
float_to_bits-bits c = no_nan c.args.x c.requires

pub parts_by-requires-else-field-eq0-clause-near : goal.parts_by-requires-else-field-eq0-clause-near
parts_by-requires-else-field-eq0-clause-near c =
    (digits_large c.args.x (subst T (sym c.well_formed.0.1) tt) c.requires c.if-field-eq0.false).near

pub returns-then-field-eq0 : goal.returns-then-field-eq0
returns-then-field-eq0 c =
    let d = digits_small c.args.x (subst T (sym c.well_formed.0.1) tt) c.requires c.if-field-eq0.true in
    let p = c.parts_by.ensures in
    parts_from c.args.x c.parts_by.result _ _ d.units p.size p.sign p.few p.odd p.near

pub returns-else-field-eq0 : goal.returns-else-field-eq0
returns-else-field-eq0 c =
    let d = digits_large c.args.x (subst T (sym c.well_formed.0.1) tt) c.requires c.if-field-eq0.false in
    let p = c.parts_by-else-field-eq0.ensures in
    parts_from c.args.x c.parts_by-else-field-eq0.result _ _ d.units p.size p.sign p.few p.odd p.near
