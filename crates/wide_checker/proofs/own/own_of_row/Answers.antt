use Rattle.std.proofs.Common.{Some, map, arith, rules, ap, sym, ◌∙◌, SFits}
use Rattle.std.specs.Int.{w128}
use Rattle.std.proofs.lemmas.Int.{to_z-of_z}
use Rattle.std.proofs.lemmas.List.{length-map}
use Rattle.cost_lists.proofs.CutRows.{cost_read, no_cost}
use Rattle.wide_checker.specs.WideNumbers.{wide_value}
use Rattle.wide_checker.specs.inside.Own.{turned_or_marked}
use Rattle.wide_checker.proofs.own.own_of_row.Goals as goal
use Rattle.wide_checker.proofs.own.own_of_row.Goals.{then-object-eq0-via-then-object-eq0, then-object-eq0-via-else-object-eq0+then-object-row}

pub returns-then-object-eq0 : goal.returns-then-object-eq0
returns-then-object-eq0 c =
    let long = length-map c.args.row.now wide_value in
    ap (turned_or_marked c.args.sense) (sym (no_cost (map wide_value c.args.row.now) c.args.object (λ n.
    let first = n.first in
    let last = n.last in
    elim c.then-object-eq0.branch [
      | then-object-eq0-via-then-object-eq0 w ↦ omega arith
      | then-object-eq0-via-else-object-eq0+then-object-row w ↦ omega arith
    ])))

pub returns : goal.returns
returns c =
    let long = length-map c.args.row.now wide_value in
    let f : SFits w128 c.cost_at.result = search rules in
    let g : SFits w128 c.to_minimise.result = search rules in
    let turned = simp to_z-of_z at c.to_minimise.ensures in
    simp to_z-of_z (turned ∙ ap (λ z. turned_or_marked c.args.sense z) (ap Some c.cost_at.ensures.value ∙ cost_read (map wide_value c.args.row.now) c.args.object (record { first = omega arith; last = omega arith })))
