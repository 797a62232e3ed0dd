use Rattle.std.proofs.Common.{ℤ, ◌≤ℤ◌, sym, subst}
use lib.Dec.{T}
use lib.Ieee.{neg, binary64}
use lib.Ieee.Fits.{neg-fits}
use Rattle.std.proofs.lemmas.Float.{T_from_false}
use Rattle.double_costs.specs.Units.{units_of}
use Rattle.double_checker.specs.inside.Pairs.{at}
use Rattle.double_checker.proofs.Lanes.{not_first}
use Rattle.double_checker.proofs.Finite.{above_number, number_below, number_neg, units_neg}
use Rattle.double_checker.proofs.FloatOrder.{no_less_units}
use Rattle.double_checker.proofs.MarginSizes.{size_within}
use Rattle.double_checker.proofs.margins.are_lanes_within.Goals as goal

pub returns : goal.returns
returns c = λ none k least most.
    let limit = c.args.limit in
    let x = at c.args.costs.now k in
    let fits = subst T (sym c.well_formed.0.1) tt in
    let above = c.none_between.ensures c.if-not-none_between.false k least most in
    let below = c.none_between-2.ensures none k least most in
    size_within x limit
    (λ n. no_less_units limit x fits (c.type_inv.costs k) c.requires.limit n
    (T_from_false _ (not_first _ _ above (number_below x n))))
    (λ n. subst (λ (z : ℤ). z ≤ℤ units_of x) (units_neg limit)
    (no_less_units x (neg limit) (c.type_inv.costs k) (neg-fits binary64 limit fits) n
    (number_neg limit c.requires.limit) (T_from_false _ (below (above_number x n)))))
