-- How a tree ends, by what stands at its place.
use Rattle.std.proofs.Common.{◌≡◌, ℕ, ℤ, zero, suc, ◌+◌, ◌*◌, ◌<◌, ◌≤◌, List, Option, None, Some, length, ap, arith}
use Rattle.row_checker.specs.declared.numbers.Head.TheVariants as head
use Rattle.row_checker.specs.declared.verdict.Fault.TheVariants.{TooDeep, Shape, Row}
use Rattle.row_checker.specs.declared.verdict.End.TheVariants.{Stops}
use Rattle.row_checker.specs.Rows.{LinearRow}
use Rattle.row_checker.specs.declared.leaf.LeafEnd.{LeafEnd}
use Rattle.row_checker.specs.declared.leaf.LeafEnd.TheVariants as leaf
use Rattle.row_checker.specs.Leaves.{end_of}
use Rattle.row_checker.specs.Trees.{at_head, first_unnamed, head_of, leaf_ends, multiples_at, or_stop, shown_by, split_ends, tree_ends}
use Rattle.row_checker.specs.inside.Paths.{IsInside}

pub at_none : (n : ℕ) (numbers : List ℤ) (deep : ℕ) (rows : List LinearRow) (p : ℕ) →
    head_of numbers p ≡ head.None → tree_ends n numbers deep rows p ≡ Stops (Shape p)
unfolding tree_ends
at_none n numbers zero rows p e = ap (λ h. at_head h p (leaf_ends n numbers rows p) (λ k. Stops (TooDeep p))) e
at_none n numbers (suc deep) rows p e = ap (λ h. at_head h p (leaf_ends n numbers rows p) (split_ends n numbers (tree_ends n numbers deep) rows p)) e

pub at_leaf : (n : ℕ) (numbers : List ℤ) (deep : ℕ) (rows : List LinearRow) (p k : ℕ) →
    head_of numbers p ≡ head.Leaf k → tree_ends n numbers deep rows p ≡ leaf_ends n numbers rows p k
unfolding tree_ends
at_leaf n numbers zero rows p k e = ap (λ h. at_head h p (leaf_ends n numbers rows p) (λ k. Stops (TooDeep p))) e
at_leaf n numbers (suc deep) rows p k e = ap (λ h. at_head h p (leaf_ends n numbers rows p) (split_ends n numbers (tree_ends n numbers deep) rows p)) e

pub too_deep : (n : ℕ) (numbers : List ℤ) (rows : List LinearRow) (p k : ℕ) → head_of numbers p ≡ head.Split k →
    tree_ends n numbers zero rows p ≡ Stops (TooDeep p)
unfolding tree_ends
too_deep n numbers rows p k e = ap (λ h. at_head h p (leaf_ends n numbers rows p) (λ k. Stops (TooDeep p))) e

pub at_split : (n : ℕ) (numbers : List ℤ) (deep : ℕ) (rows : List LinearRow) (p k : ℕ) → head_of numbers p ≡ head.Split k →
    tree_ends n numbers (suc deep) rows p ≡ split_ends n numbers (tree_ends n numbers deep) rows p k
unfolding tree_ends
at_split n numbers deep rows p k e = ap (λ h. at_head h p (leaf_ends n numbers rows p) (split_ends n numbers (tree_ends n numbers deep) rows p)) e

inside : (o : Option ℕ) (end : LeafEnd) (p q long : ℕ) → p < q → q ≤ long → IsInside p long (or_stop o (λ r. Row r) (shown_by end p q))
inside None leaf.Shows p q long lt le = (lt, le)
inside None leaf.TooGreat p q long lt le = tt
inside None leaf.Lacks p q long lt le = tt
inside (Some r) end p q long lt le = tt

-- a leaf that stands ends after its place
pub leaf_inside : (n : ℕ) (numbers : List ℤ) (rows : List LinearRow) (p k : ℕ) → p + 2 + 2 * k ≤ length numbers →
    IsInside p (length numbers) (leaf_ends n numbers rows p k)
leaf_inside n numbers rows p k room =
    inside (first_unnamed numbers (p + 2) k (length rows)) (end_of n rows (multiples_at numbers (p + 2) k)) p
    (p + 2 + 2 * k) (length numbers) (omega arith) room
