use Rattle.std.proofs.lemmas.Result.{err_from_is_err_and}
use Rattle.report.proofs.Written.{cut_line, put_line}
use Rattle.report.proofs.put.put_infeasible.Goals as goal

pub returns-in_err-make_room : goal.returns-in_err-make_room
returns-in_err-make_room g c = let p = err_from_is_err_and c.from_residual.result c.from_residual.ensures.1 in
    rw p.1 (cut_line _ _ _ _ c.in_err-make_room.ensures.puts)

pub returns : goal.returns
returns g c = put_line _ _ c.args.pending.now c.make_room.new.pending c.add.new.self _ c.in_ok-make_room.ensures.puts c.add.ensures
