use Rattle.std.proofs.Common.{◌≡◌, List, map, length, sym, ◌∙◌, subst, arith}
use Rattle.row_checker.specs.declared.tree.TheConstants.{MOST_DEPTH}
use Rattle.row_checker.specs.Rows.{LinearRow, row_in}
use Rattle.row_checker.specs.Trees.{tree_ends}
use Rattle.row_checker.specs.inside.Paths.{IsAdvance, IsAt, left_over}
use Rattle.row_checker.proofs.tree.judge_all.Goals as goal

pub loop-step-smaller : goal.loop-step-smaller
loop-step-smaller c =
    let n = length c.args.weights.now in
    let numbers = c.args.numbers.now in
    let given : List LinearRow = map row_in c.args.rows.now.items in
    let rows : List LinearRow = map row_in c.loop-step.rows.items in
    let all = tree_ends n numbers MOST_DEPTH given 0 in
    let inv = c.loop-step.invariant in
    let at = subst (λ m. IsAt m numbers given rows all (tree_ends m numbers (left_over given rows) rows c.loop-step.place)) (sym inv.4) inv.5 in
    let adv = c.in_ok-next.ensures.step (length c.loop-step.weights) numbers given all c.loop-step.place (sym inv.0)
    (c.in_ok-step.ensures.step given all (sym inv.0) at) in
    let goes = subst (IsAdvance (length c.loop-step.weights) numbers given (map row_in c.after.new.rows.items) all c.loop-step.place) c.in-Goes.is adv in
    let a = goes.0 in
    let b = goes.1 in
    omega arith

pub loop-step-preserved : goal.loop-step-preserved
loop-step-preserved c =
    let n = length c.args.weights.now in
    let numbers = c.args.numbers.now in
    let given : List LinearRow = map row_in c.args.rows.now.items in
    let rows : List LinearRow = map row_in c.loop-step.rows.items in
    let all = tree_ends n numbers MOST_DEPTH given 0 in
    let inv = c.loop-step.invariant in
    let at = subst (λ m. IsAt m numbers given rows all (tree_ends m numbers (left_over given rows) rows c.loop-step.place)) (sym inv.4) inv.5 in
    let adv = c.in_ok-next.ensures.step (length c.loop-step.weights) numbers given all c.loop-step.place (sym inv.0)
    (c.in_ok-step.ensures.step given all (sym inv.0) at) in
    let after : List LinearRow = map row_in c.after.new.rows.items in
    let goes = subst (IsAdvance (length c.loop-step.weights) numbers given after all c.loop-step.place) c.in-Goes.is adv in
    let long : length c.judge_node.new.weights ≡ n = c.judge_node.auto.weights ∙ inv.4 in (
      inv.0,
      c.in_ok-next.ensures.given,
      goes.1,
      c.in_ok-step.ensures.zero,
      long,
      subst (λ m. IsAt m numbers given after all (tree_ends m numbers (left_over given after) after c.in-Goes.next)) inv.4 goes.2,
    )

pub returns-in-Ends : goal.returns-in-Ends
returns-in-Ends c =
    let n = length c.args.weights.now in
    let numbers = c.args.numbers.now in
    let given : List LinearRow = map row_in c.args.rows.now.items in
    let rows : List LinearRow = map row_in c.loop-step.rows.items in
    let all = tree_ends n numbers MOST_DEPTH given 0 in
    let inv = c.loop-step.invariant in
    let at = subst (λ m. IsAt m numbers given rows all (tree_ends m numbers (left_over given rows) rows c.loop-step.place)) (sym inv.4) inv.5 in
    let adv = c.in_ok-next.ensures.step (length c.loop-step.weights) numbers given all c.loop-step.place (sym inv.0)
    (c.in_ok-step.ensures.step given all (sym inv.0) at) in
    subst (IsAdvance (length c.loop-step.weights) numbers given (map row_in c.after.new.rows.items) all c.loop-step.place) c.in-Ends.is adv
