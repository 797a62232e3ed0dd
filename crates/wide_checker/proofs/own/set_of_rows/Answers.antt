use Rattle.std.proofs.Common.{◌≢◌, map, pos, ◌<◌, length, get_or, arith, rules, ap, sym, ◌∙◌, below_more, SFits}
use Rattle.std.specs.Int.{w128}
use Rattle.std.proofs.lemmas.Int.{to_z-of_z}
use Rattle.std.proofs.lemmas.List.{length-map, get_or-set_other, get_or-set_same}
use Rattle.assign_core.specs.Rows.{listed_in}
use Rattle.wide_checker.specs.WideNumbers.{wide_value}
use Rattle.wide_checker.specs.inside.Own.{turned_or_marked}
use Rattle.cost_lists.proofs.CutRows.{cut_row, part_fits}
use Rattle.assign_core.specs.Dense.{row_from}
use Rattle.wide_checker.proofs.own.set_of_rows.Goals as goal

pub loop-i-preserved : goal.loop-i-preserved
loop-i-preserved c =
    let i = c.loop-i.i in
    let fits : SFits w128 c.own_of_row.result = search rules in
    let room : i < length c.loop-i.own = let long = c.loop-i.auto.own in omega arith in
    let row = ap (row_from 1) c.part.ensures.values ∙ sym (cut_row (length c.args.own.now) c.args.m i (map wide_value c.args.costs.now) c.loop-i-test.true) in
    let value = c.own_of_row.ensures ∙ ap (λ r. turned_or_marked c.args.sense (listed_in r (get_or c.args.objects.now i 0))) row in
    simp to_z-of_z (below_more _ _
    (λ k h. let ne : k ≢ i = omega arith in rw (get_or-set_other c.loop-i.own i k c.own_of_row.result (pos 0) ne) (c.loop-i.invariant k h))
    (rw (get_or-set_same c.loop-i.own i c.own_of_row.result (pos 0) room) value))

pub part-requires : goal.part-requires
part-requires c =
    let long = length-map c.args.costs.now wide_value in
    let fits = part_fits (length c.args.own.now) c.args.m c.loop-i.i (map wide_value c.args.costs.now) (long ∙ c.requires.costs.long) c.loop-i-test.true in
    omega arith

pub own_of_row-requires : goal.own_of_row-requires
own_of_row-requires c = c.part.ensures.costs c.requires.costs.costs_in

pub returns : goal.returns
returns c = λ k lt. c.loop-i.invariant k (let long = c.loop-i.auto.own in let end = c.loop-i-test.false in omega arith)
