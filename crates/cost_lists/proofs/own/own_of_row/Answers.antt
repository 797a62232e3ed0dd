use Rattle.std.proofs.Common.{◌-◌, pos, get_or, arith, rules, ap, sym, ◌∙◌, SFits, w64}
use Rattle.std.proofs.lemmas.Int.{to_z-of_z}
use Rattle.cost_lists.specs.Own.{turned_or_unlisted}
use Rattle.cost_lists.proofs.CutRows.{cost_read, no_cost}
use Rattle.cost_lists.proofs.own.own_of_row.Goals as goal
use Rattle.cost_lists.proofs.own.own_of_row.Goals.{then-object-eq0-via-then-object-eq0, then-object-eq0-via-else-object-eq0+then-object-row}

pub returns-then-object-eq0 : goal.returns-then-object-eq0
returns-then-object-eq0 c =
    ap (turned_or_unlisted c.args.sense) (sym (no_cost c.args.row.now c.args.object (λ n.
    let first = n.first in
    let last = n.last in
    elim c.then-object-eq0.branch [
      | then-object-eq0-via-then-object-eq0 w ↦ omega arith
      | then-object-eq0-via-else-object-eq0+then-object-row w ↦ omega arith
    ])))

pub returns : goal.returns
returns c =
    let f : SFits w64 (get_or c.args.row.now (c.args.object - 1) (pos 0)) = search rules in
    let g : SFits w64 c.to_minimise.result = search rules in
    let turned = simp to_z-of_z at c.to_minimise.ensures in
    simp to_z-of_z (turned ∙ ap (turned_or_unlisted c.args.sense) (cost_read c.args.row.now c.args.object (record { first = omega arith; last = omega arith })))
