use Rattle.std.proofs.Common.{SFits, w64, rules}
use Rattle.std.proofs.lemmas.Int.{to_z-of_z}
use Rattle.std.proofs.lemmas.Result.{err_from_is_err_and}
use Rattle.report.proofs.TextParts.{best_parts}
use Rattle.report.proofs.Written.{first_of_four, second_of_four, third_of_four, fourth_of_four}
use Rattle.report.proofs.write.put_best.Goals as goal

pub returns-in_err-put_sense : goal.returns-in_err-put_sense
returns-in_err-put_sense g c =
    let p = err_from_is_err_and c.from_residual.result c.from_residual.ensures.1 in
    rw p.1 (first_of_four _ _ c.args.pending.now _ _ _ _ _ (best_parts c.args.sense _ _ _) c.in_err-put_sense.ensures)

pub returns-in_err-put_cost : goal.returns-in_err-put_cost
returns-in_err-put_cost g c =
    let p = err_from_is_err_and c.from_residual-in_err-put_cost.result c.from_residual-in_err-put_cost.ensures.1 in
    let fits : SFits w64 c.total.result = search rules in
    let cut = simp to_z-of_z at c.in_err-put_cost.ensures in
    rw p.1 (second_of_four _ _ _ c.args.pending.now c.put_sense.new.pending _ _ _ _ _
    (best_parts c.args.sense _ _ _) c.in_ok-put_sense.ensures (rw c.total.ensures at cut))

pub returns-in_err-put_pairs : goal.returns-in_err-put_pairs
returns-in_err-put_pairs g c =
    let p = err_from_is_err_and c.from_residual-in_err-put_pairs.result c.from_residual-in_err-put_pairs.ensures.1 in
    let fits : SFits w64 c.total.result = search rules in
    let put = simp to_z-of_z at c.in_ok-put_cost.ensures in
    rw p.1 (third_of_four _ _ _ _ c.args.pending.now c.put_sense.new.pending c.put_cost.new.pending _ _ _ _ _ (best_parts c.args.sense _ _ _)
    c.in_ok-put_sense.ensures (rw c.total.ensures at put) c.in_err-put_pairs.ensures)

pub returns : goal.returns
returns g c =
    let fits : SFits w64 c.total.result = search rules in
    let put = simp to_z-of_z at c.in_ok-put_cost.ensures in
    fourth_of_four _ _ _ _ _ c.args.pending.now c.put_sense.new.pending c.put_cost.new.pending
    c.put_pairs.new.pending _ c.put_chosen.result _ _ _ _ _ (best_parts c.args.sense _ _ _)
    c.in_ok-put_sense.ensures (rw c.total.ensures at put) c.in_ok-put_pairs.ensures c.put_chosen.ensures
