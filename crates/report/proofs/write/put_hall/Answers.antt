use Rattle.std.proofs.Common.{refl}
use Rattle.std.proofs.lemmas.Result.{err_from_is_err_and}
use Rattle.report.proofs.TextParts.{hall_parts, hall_lists}
use Rattle.report.proofs.Written.{first_of_four, second_of_four, third_of_four, fourth_of_four}
use Rattle.report.proofs.write.put_hall.Goals as goal

pub returns-in_err-put_sense : goal.returns-in_err-put_sense
returns-in_err-put_sense g c =
    let p = err_from_is_err_and c.from_residual.result c.from_residual.ensures.1 in
    rw p.1 (first_of_four _ _ c.args.pending.now _ _ _ _ _ (hall_parts c.args.sense c.args.hall.now.persons c.args.hall.now.objects) c.in_err-put_sense.ensures)

pub returns-in_err-put_infeasible : goal.returns-in_err-put_infeasible
returns-in_err-put_infeasible g c =
    let p = err_from_is_err_and c.from_residual-in_err-put_infeasible.result c.from_residual-in_err-put_infeasible.ensures.1 in
    rw p.1 (second_of_four _ _ _ c.args.pending.now c.put_sense.new.pending _ _ _ _ _ (hall_parts c.args.sense c.args.hall.now.persons c.args.hall.now.objects)
    c.in_ok-put_sense.ensures c.in_err-put_infeasible.ensures)

pub returns-in_err-put_list : goal.returns-in_err-put_list
returns-in_err-put_list g c =
    let p = err_from_is_err_and c.from_residual-in_err-put_list.result c.from_residual-in_err-put_list.ensures.1 in
    let ps = c.persons.ensures.persons in
    let parts = hall_lists c.args.sense c.args.hall.now.persons c.args.hall.now.objects c.persons.result.now c.args.hall.now.objects ps refl in
    rw p.1 (third_of_four _ _ _ _ c.args.pending.now c.put_sense.new.pending c.put_infeasible.new.pending _ _ _ _ _ parts
    c.in_ok-put_sense.ensures c.in_ok-put_infeasible.ensures c.in_err-put_list.ensures)

pub returns : goal.returns
returns g c =
    let ps = c.persons.ensures.persons in
    let os = c.objects.ensures.objects in
    let parts = hall_lists c.args.sense c.args.hall.now.persons c.args.hall.now.objects c.persons.result.now c.objects.result.now ps os in
    fourth_of_four _ _ _ _ _ c.args.pending.now c.put_sense.new.pending c.put_infeasible.new.pending
    c.put_list.new.pending _ c.put_list-2.result _ _ _ _ _ parts
    c.in_ok-put_sense.ensures c.in_ok-put_infeasible.ensures c.in_ok-put_list.ensures c.put_list-2.ensures
