use mathlib.Core.Path.{sym, subst}
use lib.Dec.{T}
use Rattle.std.proofs.lemmas.Float.{T_from_true, T_from_false}
use Rattle.double_checker.proofs.FloatOrder.{less_units, no_less_units}
use Rattle.double_checker.proofs.prices.is_less.Goals as goal

pub returns-clause-less : goal.returns-clause-less
returns-clause-less c = λ h.
    let w = c.well_formed in
    less_units c.args.x c.args.y (subst T (sym w.0.1) tt) (subst T (sym w.1.0.1) tt) c.requires.x c.requires.y
    (T_from_true _ h)

pub returns-clause-no_less : goal.returns-clause-no_less
returns-clause-no_less c = λ h.
    let w = c.well_formed in
    no_less_units c.args.x c.args.y (subst T (sym w.0.1) tt) (subst T (sym w.1.0.1) tt) c.requires.x c.requires.y
    (T_from_false _ h)
