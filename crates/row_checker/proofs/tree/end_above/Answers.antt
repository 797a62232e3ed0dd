use Rattle.std.proofs.Common.{◌≡◌, map, ap, sym, ◌∙◌, subst}
use Rattle.std.specs.Bool.{MatchBool}
use Rattle.row_checker.specs.declared.verdict.End.TheVariants.{Stands}
use Rattle.row_checker.specs.Rows.{row_in}
use Rattle.row_checker.specs.Trees.{tree_ends}
use Rattle.row_checker.specs.inside.Paths.{IsAt, left_over, whole_ends}
use Rattle.row_checker.proofs.Climbing.{stops_all}
use Rattle.row_checker.proofs.tree.end_above.Goals as goal

pub returns-in-Stops-clause-step : goal.returns-in-Stops-clause-step
returns-in-Stops-clause-step c = λ n numbers given all p long inside at.
    c.in-Stops.is ∙ sym (stops_all n numbers given at.path c.in-Stops.field-0) ∙ ap (whole_ends n numbers given at.path) (sym c.in-Stops.is) ∙ at.ends

pub returns-else-branch-clause-step : goal.returns-else-branch-clause-step
returns-else-branch-clause-step c = λ n numbers given all p long inside at.
    let h = subst (IsAt n numbers given (map row_in c.args.rows.now.items) all) c.in-Stands.is at in
    let r = c.in_ok-climb-in-Stands.ensures.climbed n numbers given all c.in-Stands.next long h in
    let after = map row_in c.climb.new.rows.items in
    subst (λ b. MatchBool b (IsAt n numbers given after all (tree_ends n numbers (left_over given after)
    after c.in-Stands.next)) (Stands c.in-Stands.next ≡ all)) c.if-branch.false r
