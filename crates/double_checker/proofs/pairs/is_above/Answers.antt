use mathlib.Core.Path.{sym, subst}
use lib.Dec.{T}
use lib.Ieee.{Float, lt, add, binary64}
use Rattle.std.proofs.Common.{IsTrue}
use Rattle.double_checker.proofs.Shown.{above_shown}
use Rattle.double_checker.proofs.pairs.is_above.Goals as goal

pub returns : goal.returns
returns c h =
    let w = c.well_formed in
    above_shown c.args.sense c.args.base c.args.margin c.args.cost c.args.price (subst T (sym w.1.0.1) tt)
    (subst T (sym w.1.1.0.1) tt) (subst T (sym w.1.1.1.0.1) tt) (subst T (sym w.1.1.1.1.0.1) tt)
    c.requires.base c.requires.margin c.requires.price
    (subst (λ (x : Float). IsTrue (lt (add binary64 c.args.base c.args.margin) (add binary64 x c.args.price)))
    c.turned.ensures h)
