use Rattle.std.proofs.Common.{◌≡◌, ℤ, pos, ◌+◌, ◌+ℤ◌, ◌*ℤ◌, ◌≤ℤ◌, length, get_or, arith, ap, sym, subst, ◌∙◌, rules, SFits, w64}
use mir.Syntax.{w128}
use Rattle.std.proofs.lemmas.Int.{ints, to_z-of_z}
use Rattle.assign_core.specs.Numbered.{IsNumber}
use Rattle.assign_core.specs.Prices.{price_of}
use Rattle.assign_core.specs.Rows.{IsCost}
use Rattle.assign_core.proofs.RowLemmas.{IsCost-listed}
use Rattle.dual_checker.specs.inside.Rounded.{minimised}
use Rattle.dual_checker.proofs.RoundedSums.{slack_by_sums, from_no_test, from_test}
use Rattle.dual_checker.proofs.Places.{at_place}
use Rattle.dual_checker.proofs.sums.shows_slack.Goals as goal

pub sum_of-requires-clause-cost : goal.sum_of-requires-clause-cost
sum_of-requires-clause-cost c =
    let f = c.ranges.cost in
    simp to_z-of_z (subst IsCost (sym c.requires.cost) (IsCost-listed c.args.row.now c.args.own c.requires.row.costs))

pub returns : goal.returns
returns c = λ t.
    let prices = c.args.prices.now in
    let rounded = c.args.rounded.now in
    let own = c.args.own in
    let at : ℤ = get_or rounded c.place.result (pos 0) in
    let read : at ≡ price_of rounded own = at_place rounded own c.place.result (pos 0) (subst (λ k. IsNumber k own)
    (sym c.requires.rounded.long) c.requires.number) c.place.ensures in
    let fits_cost = c.ranges.cost in
    let fits_rounded : SFits w64 at = search rules in
    let fits_sum : SFits w64 c.sum_of.result = search rules in
    let fits_least : SFits w64 c.least_sum.result = search rules in
    let fits_price : SFits w128 c.price_at.result = search rules in
    let fits_whole : SFits w128 c.as_price.result = search rules in
    let greatest = c.as_price.ensures.greatest in
    let fits_next : SFits w128 (c.as_price.result +ℤ pos 1) = omega (arith, ints) in
    let value = simp to_z-of_z at c.as_price.ensures.value in
    let whole : c.as_price.result ≡ pos (length prices + 1) *ℤ price_of rounded own = value ∙ ap (λ f. pos (length prices + 1) *ℤ f) read in
    let price = c.price_at.ensures.value in
    let upto = simp to_z-of_z at c.if-price_at-as_price.false in
    let near : price_of prices own ≤ℤ ((pos (length prices + 1) *ℤ price_of rounded own) +ℤ pos 1) =
    subst (λ w. price_of prices own ≤ℤ (w +ℤ pos 1)) whole (subst (λ p. p ≤ℤ (c.as_price.result +ℤ pos 1)) price
    (from_no_test (c.as_price.result +ℤ pos 1) c.price_at.result upto)) in
    let sum = simp to_z-of_z at c.sum_of.ensures in
    let total : c.sum_of.result ≡ minimised c.args.sense c.args.cost +ℤ price_of rounded own = sum ∙ ap (λ f. minimised c.args.sense c.args.cost +ℤ f) read in
    let test = simp to_z-of_z at t in
    let under : (minimised c.args.sense c.args.cost +ℤ price_of rounded own) ≤ℤ c.least_sum.result =
    subst (λ z. z ≤ℤ c.least_sum.result) total (from_test c.sum_of.result c.least_sum.result test) in
    slack_by_sums c.args.sense rounded prices c.args.row.now own c.args.cost c.least_sum.result c.requires.rounded
    c.requires.row c.requires.cost near c.least_sum.ensures under
