use Rattle.std.proofs.Common.{◌-◌, ◌+◌, ◌++◌, ◌∷◌, arith, sym, ◌∙◌, ap, map, take}
use Rattle.assign_core.specs.Dense.{rows_cut, row_from}
use Rattle.assign_core.proofs.DenseRows.{rows_cut-step, rows_moved, less_left}
use Rattle.assign_core.proofs.problem.cut_rows.Goals as goal

pub loop-preserved : goal.loop-preserved
loop-preserved c =
    let lt = c.loop-test.true in
    let less = less_left c.args.m c.args.n c.loop.counter lt in
    let row = c.in_ok-row_of_costs.ensures ∙ ap (row_from 1) c.split_at.ensures.front in
    record {
      whole =
          ap (λ l. map (λ r. r.items) l ++ rows_cut c.args.m (c.args.n - (c.loop.counter + 1)) c.split_at.result.1.now) c.in_ok-push.ensures.items
          ∙ rows_moved (λ r. r.items) c.loop.rows.items c.in_ok-row_of_costs.field-0
          (row_from 1 (take c.args.m c.loop.left.now)) (rows_cut c.args.m (c.args.n - (c.loop.counter + 1))
          c.split_at.result.1.now) row
          ∙ ap (λ l. map (λ r. r.items) c.loop.rows.items ++ l)
          (ap (λ l. row_from 1 (take c.args.m c.loop.left.now) ∷ rows_cut c.args.m (c.args.n - (c.loop.counter + 1))
          l) c.split_at.ensures.back ∙ sym (rows_cut-step c.args.m c.args.n c.loop.counter c.loop.left.now lt))
          ∙ c.loop.invariant.whole;
      long = let b = c.split_at.ensures.back_len in let w = c.loop.invariant.long in omega arith;
    }
