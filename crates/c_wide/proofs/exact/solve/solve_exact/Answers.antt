use Rattle.std.proofs.Common.{inl, inr, refl, rules, ap, sym, subst, SFits}
use Rattle.std.specs.Int.{w32}
use Rattle.std.proofs.lemmas.Int.{to_z-of_z}
use Rattle.c_calls.specs.doubles.Input.{InputDoubles}
use Rattle.c_wide.specs.exact.Units.{IsUnit}
use Rattle.c_wide.proofs.ExactEnds.{exact_refused, pairs_long, rows_by, shown_of}
use Rattle.c_wide.proofs.exact.solve.solve_exact.Goals as goal

pub unit_costs-requires-clause-unit : goal.unit_costs-requires-clause-unit
unit_costs-requires-clause-unit c =
    subst (IsUnit c.in-Ok.judged.unit) (sym (ap (λ (i : InputDoubles). i.costs) c.input.view_is)) c.in-Ok.ensures.found.greatest.unit

pub exponent_of-requires : goal.exponent_of-requires
exponent_of-requires c = c.in-Ok.ensures.most

pub returns-in-Err-unit_costs : goal.returns-in-Err-unit_costs
returns-in-Err-unit_costs c =
    let fits : SFits w32 c.refuse-in-Err-unit_costs.result = search rules in
    simp to_z-of_z (inr (
      exact_refused c.args.input.now c.in-Ok.judged c.in-Ok.ensures.found c.args.info.now c.refuse-in-Err-unit_costs.new.info
          c.refuse-in-Err-unit_costs.result c.refuse-in-Err-unit_costs.ensures.code c.refuse-in-Err-unit_costs.ensures.place,
      refl,
      refl,
    ))

pub returns-in-Ok-answer_of : goal.returns-in-Ok-answer_of
returns-in-Ok-answer_of c =
    let g = c.args.input.now in
    let j = c.in-Ok.judged in
    let found = c.in-Ok.ensures.found in
    let l = c.lists_in_units-lists.ensures in
    let rows = rows_by j.unit j.shape.n j.shape.m c.input.inside.costs.now g.costs c.lists_in_units-lists.result.rows
    (ap (λ (i : InputDoubles). i.costs) c.input.view_is) (pairs_long g j found)
    (λ long. l.rows j.unit c.input.inside.costs.now long c.in-Ok-unit_costs.ensures.units) in
    let unit : SFits w32 c.exponent_of.result = search rules in
    let code : SFits w32 c.put_answer.result = search rules in
    simp to_z-of_z (inl (shown_of g j found c.lists_in_units-lists.result l.sense l.objects rows
    _ _ c.exponent_of.result c.put_answer.result c.exponent_of.ensures c.put_answer.ensures))

pub returns : goal.returns
returns c =
    let fits : SFits w32 c.refuse-in-Err-answer_of.result = search rules in
    simp to_z-of_z (inr (
      exact_refused c.args.input.now c.in-Ok.judged c.in-Ok.ensures.found c.args.info.now c.refuse-in-Err-answer_of.new.info
          c.refuse-in-Err-answer_of.result c.refuse-in-Err-answer_of.ensures.code c.refuse-in-Err-answer_of.ensures.place,
      refl,
      refl,
    ))
