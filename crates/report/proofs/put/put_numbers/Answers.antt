use Rattle.std.proofs.lemmas.Result.{err_from_is_err_and}
use Rattle.report.proofs.Written.{parts_on, parts_cut, numbers_more}
use Rattle.report.proofs.put.put_numbers.Goals as goal

pub returns-in_err-put_number : goal.returns-in_err-put_number
returns-in_err-put_number g c =
    let p = err_from_is_err_and c.from_residual.result c.from_residual.ensures.1 in
    let xs = c.args.numbers.now in let i = c.loop-number.number-index in
    rw p.1 (parts_cut _ _ _ _ c.loop-number.pending _ _ _
    (numbers_more g.N.Numbered.number_of xs i c.number-item.result c.number.result c.loop-number-test.true
    c.number-item.is c.number.ensures) c.loop-number.invariant c.in_err-put_number.ensures)

pub loop-number-preserved : goal.loop-number-preserved
loop-number-preserved g c =
    let xs = c.args.numbers.now in let i = c.loop-number.number-index in
    parts_on _ _ _ _ c.loop-number.pending c.put_number.new.pending _ _ _
    (numbers_more g.N.Numbered.number_of xs i c.number-item.result c.number.result c.loop-number-test.true
    c.number-item.is c.number.ensures) c.loop-number.invariant c.in_ok-put_number.ensures
