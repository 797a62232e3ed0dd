use Rattle.std.proofs.Common.{decimal, length, map}
use Rattle.std.proofs.lemmas.Result.{err_from_is_err_and}
use Rattle.report.proofs.TextParts.{list_parts}
use Rattle.report.proofs.Written.{first_of_three, second_of_three, third_of_three}
use Rattle.report.proofs.put.put_list.Goals as goal

pub returns-in_err-put_head : goal.returns-in_err-put_head
returns-in_err-put_head g c =
    let p = err_from_is_err_and c.from_residual.result c.from_residual.ensures.1 in
    let xs = c.args.numbers.now in
    let parts = list_parts c.args.word.now (decimal (length xs)) (map decimal (map g.N.Numbered.number_of xs)) in
    rw p.1 (first_of_three _ _ c.args.pending.now _ _ _ _ parts c.in_err-put_head.ensures)

pub returns-in_err-put_numbers : goal.returns-in_err-put_numbers
returns-in_err-put_numbers g c =
    let p = err_from_is_err_and c.from_residual-in_err-put_numbers.result c.from_residual-in_err-put_numbers.ensures.1 in
    let xs = c.args.numbers.now in
    let parts = list_parts c.args.word.now (decimal (length xs)) (map decimal (map g.N.Numbered.number_of xs)) in
    rw p.1 (second_of_three _ _ _ c.args.pending.now c.put_head.new.pending _ _ _ _ parts c.in_ok-put_head.ensures c.in_err-put_numbers.ensures)

pub returns : goal.returns
returns g c =
    let xs = c.args.numbers.now in
    let parts = list_parts c.args.word.now (decimal (length xs)) (map decimal (map g.N.Numbered.number_of xs)) in
    third_of_three _ _ _ _ c.args.pending.now c.put_head.new.pending c.put_numbers.new.pending _ c.put_feed.result _
    _ _ _ parts c.in_ok-put_head.ensures c.in_ok-put_numbers.ensures c.put_feed.ensures
