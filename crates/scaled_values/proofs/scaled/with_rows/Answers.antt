use Rattle.std.proofs.Common.{rules}
use Rattle.std.proofs.lemmas.Int.{to_z-of_z}
use mir.Val.{SFits}
use mir.Syntax.{w64}
use Rattle.assign_core.specs.Benefits.{benefit_rows}
use Rattle.scaled_values.specs.Scaled.{values_in}
use Rattle.scaled_values.proofs.BenefitRange.{all_in_range}
use Rattle.scaled_values.proofs.Ranges.{range_is}
use Rattle.scaled_values.proofs.scaled.with_rows.Goals as goal

pub invariant_of-result : goal.invariant_of-result
invariant_of-result c =
    let least_fits : SFits w64 c.or_zeros-range.result.least = search rules in
    let greatest_fits : SFits w64 c.or_zeros-range.result.greatest = search rules in
    let problem = c.n-persons.ensures.problem in
    let in_range = all_in_range (record { problem = c.args.problem; sense = c.args.sense }) problem in
    let known = range_is (values_in (benefit_rows c.args.sense c.args.problem))
    c.args.found c.or_zeros-range.result in_range c.requires.range c.or_zeros-range.ensures.some
    c.or_zeros-range.ensures.none in
    record {
      problem = problem;
      entries = c.requires.entries;
      form = c.requires.form;
      least = simp to_z-of_z known.least;
      greatest = simp to_z-of_z known.greatest;
    }
