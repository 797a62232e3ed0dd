use Rattle.std.proofs.Common.{decimal, codes, sym}
use Rattle.std.specs.Fmt.{signed_decimal}
use Rattle.std.proofs.lemmas.Result.{err_from_is_err_and}
use Rattle.std.proofs.lemmas.Int.{to_z-of_z}
use Rattle.report.proofs.Written.{cut_line, put_line, three_numbers}
use Rattle.report.proofs.put.put_pair.Goals as goal

pub returns-in_err-make_room : goal.returns-in_err-make_room
returns-in_err-make_room g c = let p = err_from_is_err_and c.from_residual.result c.from_residual.ensures.1 in
    rw p.1 (cut_line _ _ _ _ c.in_err-make_room.ensures.puts)

pub returns : goal.returns
returns g c =
    put_line (g.W.Write.contents c.args.w.now) (g.W.Write.contents c.make_room.new.w)
    c.args.pending.now c.make_room.new.pending c.add-2.new.self _ c.in_ok-make_room.ensures.puts
    (three_numbers c.make_room.new.pending c.add.new.self c.add_number.new.self c.add_number-2.new.self
    c.add_number-3.new.self c.add-2.new.self (codes "assign") (decimal c.args.person) (decimal c.args.object)
    (signed_decimal c.args.cost)
    c.add.ensures (let v = c.person.view_is in rw (sym v) c.add_number.ensures.text) (let v = c.object.view_is in
    rw (sym v) c.add_number-2.ensures.text) (let f = c.ranges.cost in
    simp to_z-of_z at c.add_number-3.ensures.text) c.add-2.ensures)
