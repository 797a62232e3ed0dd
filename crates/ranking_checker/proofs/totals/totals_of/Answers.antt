use Rattle.std.proofs.Common.{◌≡◌, rules, SFits, w64, subst, ap, ◌∙◌}
use Rattle.std.proofs.lemmas.Int.{to_z-of_z}
use Rattle.assign_core.specs.Assignment.{IsAssignment, total}
use Rattle.ranking_checker.proofs.TotalLaws.{AreTotalsUpto, totals_more}
use Rattle.ranking_checker.proofs.totals.totals_of.Goals as goal

pub loop-t-preserved : goal.loop-t-preserved
loop-t-preserved c =
    let rows = c.args.lists.now.rows in
    let tree = c.args.tree in
    let assigned : IsAssignment rows c.plan_at.result.now = search rules in
    let cost : c.in-Some.total ≡ total rows c.plan_at.result.now = search rules in
    let fits : SFits w64 c.in-Some.total = search rules in
    let items = simp to_z-of_z at c.in_ok-push.ensures.items in
    let plan = c.plan_at.ensures.plan in
    let before : AreTotalsUpto rows tree c.loop-t.totals.items c.loop-t.t =
    (c.loop-t.invariant.long, c.loop-t.invariant.assigned, c.loop-t.invariant.cost) in
    let after = totals_more rows tree c.loop-t.totals.items c.loop-t.t c.in-Some.total before
    (subst (IsAssignment rows) plan assigned) (cost ∙ ap (total rows) plan) in
    rw items (record { long = after.0; assigned = after.1; cost = after.2 })
