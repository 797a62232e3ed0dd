use Rattle.std.proofs.Common.{◌≡◌, List, map, length, ap, sym, ◌∙◌, subst}
use Rattle.row_checker.specs.Rows.{LinearRow, row_in}
use Rattle.row_checker.specs.Trees.{leaf_ends}
use Rattle.row_checker.specs.inside.Paths.{IsInside, left_over}
use Rattle.row_checker.proofs.Climbing.{with_end}
use Rattle.row_checker.proofs.Ends.{at_leaf, at_none, leaf_inside}
use Rattle.row_checker.proofs.Named.{leaf_room}
use Rattle.row_checker.proofs.tree.judge_node.Goals as goal

pub returns-in-None-clause-step : goal.returns-in-None-clause-step
returns-in-None-clause-step c = λ given all long at.
    let rows : List LinearRow = map row_in c.args.rows.now.items in (
      tt,
      with_end (length c.args.weights.now) c.args.numbers.now given rows all _ _
          (at_none (length c.args.weights.now) c.args.numbers.now (left_over given rows) rows c.args.place
          (sym c.head_at.ensures ∙ c.in-None.is)) at,
    )

pub returns-in_ok-end-in-Leaf-clause-step : goal.returns-in_ok-end-in-Leaf-clause-step
returns-in_ok-end-in-Leaf-clause-step c = λ given all long at.
    let n = length c.args.weights.now in
    let numbers = c.args.numbers.now in
    let p = c.args.place in
    let k = c.in-Leaf.pairs in
    let rows : List LinearRow = map row_in c.args.rows.now.items in
    let head = sym c.head_at.ensures ∙ c.in-Leaf.is in
    let end : c.in_ok-end-in-Leaf.end ≡ leaf_ends n numbers rows p k = c.in_ok-end-in-Leaf.ensures.end ∙
    ap (λ items. leaf_ends n numbers (map row_in items) p k) c.as_slice.ensures.value in (
      subst (IsInside p (length numbers)) (sym end) (leaf_inside n numbers rows p k (leaf_room numbers p k head)),
      with_end n numbers given rows all _ _ (at_leaf n numbers (left_over given rows) rows p k head ∙ sym end) at,
    )
