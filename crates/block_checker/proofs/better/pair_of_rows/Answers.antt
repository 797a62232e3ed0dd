use Rattle.std.proofs.Common.{pos, ◌+◌, get_or, rules, sym, subst, SFits, w64}
use Rattle.std.proofs.lemmas.Int.{to_z-of_z}
use Rattle.assign_core.specs.Dense.{rows_cut}
use Rattle.block_checker.specs.inside.Reading.{IsRead}
use Rattle.block_checker.proofs.GivenPairs.{row_read}
use Rattle.block_checker.proofs.better.pair_of_rows.Goals as goal

pub returns : goal.returns
returns c = λ sense.
    let n = c.args.n in
    let m = c.args.m in
    let costs = c.args.costs.now in
    let row = c.args.selected.row in
    let at = c.args.selected.at in
    let fits : SFits w64 (get_or c.part-costs.result.now at (pos 0)) = search rules in
    simp to_z-of_z (subst (λ r. IsRead sense (rows_cut m n costs) n m (row + 1) (at + 1) (get_or r at (pos 0))) (sym c.part-costs.ensures)
    (row_read sense n m costs row at c.requires.costs c.if-row-n.false c.if-at-m.false))
