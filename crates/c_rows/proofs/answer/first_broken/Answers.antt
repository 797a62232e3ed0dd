use Rattle.std.proofs.Common.{rules, ◌≡◌, [], None, List, map, below_more, ap, sym, ◌∙◌, subst}
use Rattle.std.proofs.lemmas.List.{get_or-map}
use Rattle.row_checker.specs.Rows.{LinearRow, Meets, row_at, row_in}
use Rattle.c_rows.proofs.answer.first_broken.Goals as goal

pub loop-r-preserved : goal.loop-r-preserved
loop-r-preserved c =
    let rows : List LinearRow = map row_in c.args.rows.now in
    let m : Meets c.args.plan.now (row_in c.index-rows-r.result) = c.meets.ensures.0 (search rules) in
    let at : row_in c.index-rows-r.result ≡ row_at rows c.loop-r.r =
    ap row_in c.index-rows-r.is ∙ sym (get_or-map row_in c.args.rows.now c.loop-r.r c.index-rows-r.result
    (record { least = None; most = None; terms = [] }) (search rules)) in
    below_more (λ k. Meets c.args.plan.now (row_at rows k)) c.loop-r.r c.loop-r.invariant (subst (Meets c.args.plan.now) at m)
