use Rattle.std.proofs.Common.{IsTrue, arith, sym, subst}
use Rattle.std.proofs.lemmas.Int.{ints}
use lib.Dec.{T}
use lib.Ieee.{Float, lt, add, binary64}
use Rattle.double_checker.specs.inside.Pairs.{turned}
use Rattle.double_checker.proofs.Finite.{fits_turned, number_turned, units_turned}
use Rattle.double_checker.proofs.Shown.{above_shown}
use Rattle.block_doubles.proofs.least.is_rounded_less.Goals as goal

pub returns : goal.returns
returns c h n =
    let w = c.well_formed in
    let sense = c.args.sense in
    let shown = above_shown sense (turned sense c.args.cost) c.args.price c.args.other_cost c.args.other_price
    (fits_turned sense c.args.cost (subst T (sym w.1.0.1) tt)) (subst T (sym w.1.1.0.1) tt) (subst T (sym w.1.1.1.0.1) tt)
    (subst T (sym w.1.1.1.1.0.1) tt) (number_turned sense c.args.cost c.requires.cost) c.requires.price c.requires.other_price
    (subst (λ (x : Float). IsTrue (lt (add binary64 x c.args.price) (add binary64 (turned sense c.args.other_cost) c.args.other_price))) c.turned.ensures
    (subst (λ (x : Float). IsTrue (lt (add binary64 c.turned.result c.args.price) (add binary64 x c.args.other_price))) c.turned-2.ensures h)) in
    let less = shown.above n in
    let units = units_turned sense c.args.cost in
    omega (arith, ints)
