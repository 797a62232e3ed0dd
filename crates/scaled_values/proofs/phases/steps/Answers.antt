use Rattle.std.proofs.Common.{◌≡◌, ◌≤◌, ◌≤ℤ◌, ◌*ℤ◌, ℕ, ℤ, pos, negsuc, arith, rules, ap, ◌∙◌, SFits}
use Rattle.std.proofs.lemmas.Int.{ints, to_z-of_z}
use Rattle.std.specs.Int.{w128}
use Rattle.assign_core.specs.declared.numbers.TheConstants.{MOST_PERSONS}
use Rattle.assign_core.proofs.Products.{steps_below}
use Rattle.scaled_values.specs.Limits.{most_step}
use Rattle.scaled_values.proofs.phases.steps.Goals as goal

-- this many steps are in range
record InRange (product : ℤ) : Type 0 where
  pub least : pos 0 ≤ℤ product
  pub greatest : product ≤ℤ (pos MOST_PERSONS *ℤ most_step)

in_range : (count : ℕ) (step : ℤ) → count ≤ MOST_PERSONS → pos 0 ≤ℤ step → step ≤ℤ most_step → InRange (pos count *ℤ step)
in_range count (pos k) few least greatest = record {
  least = omega (arith, ints);
  greatest =
      steps_below count MOST_PERSONS (pos k) most_step few least greatest;
}
in_range count (negsuc k) few least greatest = absurd (omega (arith, ints))

-- the product of the widened numbers
record IsProduct (c : goal.After-from-2) : Type 0 where
  pub value : c.from.result *ℤ c.from-2.result ≡ pos c.args.count *ℤ c.args.step
  pub range : InRange (pos c.args.count *ℤ c.args.step)
  pub fits : SFits w128 (c.from.result *ℤ c.from-2.result)

product : (c : goal.After-from-2) → IsProduct c
product c =
    let step_fits = c.ranges.step in
    let step : c.from-2.result ≡ c.args.step = simp to_z-of_z at c.from-2.ensures in
    let value : c.from.result *ℤ c.from-2.result ≡ pos c.args.count *ℤ c.args.step =
    ap (λ x. x *ℤ c.from-2.result) c.from.ensures ∙ ap (λ x. pos c.args.count *ℤ x) step in
    let range = in_range c.args.count c.args.step c.requires.few c.requires.least c.requires.greatest in
    let fits : SFits w128 (pos c.args.count *ℤ c.args.step) = omega (arith, ints) in
    record { value = value; range = range; fits = rw value fits }

pub overflow_mul-result : goal.overflow_mul-result
overflow_mul-result c =
    let first : SFits w128 c.from.result = search rules in
    let second : SFits w128 c.from-2.result = search rules in
    simp to_z-of_z (product c).fits

pub returns-clause-value : goal.returns-clause-value
returns-clause-value c =
    let first : SFits w128 c.from.result = search rules in
    let second : SFits w128 c.from-2.result = search rules in
    let fits = (product c).fits in
    simp to_z-of_z (product c).value

pub returns-clause-least : goal.returns-clause-least
returns-clause-least c = rw (returns-clause-value c) (product c).range.least

pub returns-clause-greatest : goal.returns-clause-greatest
returns-clause-greatest c = rw (returns-clause-value c) (product c).range.greatest
