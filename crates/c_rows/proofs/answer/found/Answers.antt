use Rattle.std.proofs.Common.{◌≡◌, length, ap, sym, ◌∙◌, arith}
use Rattle.std.proofs.lemmas.List.{length-map}
use Rattle.row_checker.specs.Rows.{row_in}
use Rattle.c_rows.specs.Input.{rows_in}
use Rattle.c_rows.proofs.Cheaper.{has_last, rows_long}
use Rattle.c_rows.proofs.answer.found.Goals as goal

pub answer_so_far-requires-clause-count : goal.answer_so_far-requires-clause-count
answer_so_far-requires-clause-count c =
    ap length c.as_slice.ensures.value ∙ sym (length-map c.in_ok-rows.rows.items row_in) ∙ ap length c.in_ok-rows.ensures
    ∙ rows_long c.args.input.now c.count_rows-count.result ∙ c.count_rows-count.ensures.is

pub answer_so_far-requires-clause-last : goal.answer_so_far-requires-clause-last
answer_so_far-requires-clause-last c = λ some.
    let long : length c.as_slice.result.now ≡ rows_in c.args.input.now =
    ap length c.as_slice.ensures.value ∙ sym (length-map c.in_ok-rows.rows.items row_in) ∙ ap length c.in_ok-rows.ensures
    ∙ rows_long c.args.input.now c.count_rows-count.result ∙ c.count_rows-count.ensures.is in
    let last = has_last c.args.input.now c.in_default.ensures.lengths some in
    omega arith
