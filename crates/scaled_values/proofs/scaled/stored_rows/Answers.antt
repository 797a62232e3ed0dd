use Rattle.std.proofs.Common.{◌<◌, ◌+◌, ◌++◌, ap, ◌∙◌, sym, length, drop, map, arith, subst}
use Rattle.std.proofs.lemmas.List.Elements.{All-push}
use Rattle.assign_core.specs.Rows.{row_of}
use Rattle.assign_core.specs.Benefits.{benefit_row, benefit_rows}
use Rattle.assign_core.proofs.DenseRows.{rows_moved}
use Rattle.scaled_values.specs.inside.Stored.{stored_entries, HasStoredForm}
use Rattle.scaled_values.specs.inside.Range.{range_with}
use Rattle.scaled_values.proofs.Ranges.{range_row, rows_next}
use Rattle.scaled_values.proofs.scaled.stored_rows.Goals as goal

pub loop-i-preserved : goal.loop-i-preserved
loop-i-preserved c =
    let n = c.n-n.ensures.count in
    let problem = c.args.problem.now in
    let lt : c.loop-i.i < length c.args.problem.now = omega (arith, c.loop-i-test.true) in
    let row =
    c.in_ok-row.ensures.entries
    ∙ ap (benefit_row c.args.sense c.n-n.result) c.row.ensures.row
    ∙ ap (λ m. benefit_row c.args.sense m (row_of problem (c.loop-i.i + 1))) n in
    let wider =
    c.in_ok-row.ensures.range
    ∙ ap (λ r. range_with c.loop-i.range (map (λ e. e.1) (benefit_row c.args.sense c.n-n.result r))) c.row.ensures.row
    ∙ ap (λ m. range_with c.loop-i.range (map (λ e. e.1) (benefit_row c.args.sense m (row_of problem (c.loop-i.i + 1))))) n in
    record {
      entries =
          ap (λ l. map stored_entries l ++ drop (c.loop-i.i + 1) (benefit_rows c.args.sense problem)) c.push_reserved.ensures.items
          ∙ rows_moved stored_entries c.loop-i.rows.items c.in_ok-row.row (benefit_row c.args.sense (length problem)
          (row_of problem (c.loop-i.i + 1))) (drop (c.loop-i.i + 1) (benefit_rows c.args.sense problem)) row
          ∙ ap (λ l. map stored_entries c.loop-i.rows.items ++ l) (sym (rows_next c.args.sense (length problem) problem c.loop-i.i lt))
          ∙ c.loop-i.invariant.entries;
      form =
          rw c.push_reserved.ensures.items
          (All-push (HasStoredForm (length problem)) c.loop-i.rows.items c.in_ok-row.row c.loop-i.invariant.form
          (subst (λ m. HasStoredForm m c.in_ok-row.row) n c.in_ok-row.ensures.form));
      range = range_row c.args.sense (length problem) problem c.loop-i.i c.loop-i.range c.in_ok-row.wider lt wider ∙ c.loop-i.invariant.range;
      long = omega (arith, c.push_reserved.ensures.len, c.loop-i.invariant.long);
      room = c.push_reserved.ensures.capacity ∙ c.loop-i.invariant.room;
    }
