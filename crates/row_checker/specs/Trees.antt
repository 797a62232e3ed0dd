-- Trees of splits and leaves, written as a list of numbers: a node, then the nodes below it.
--     leaf    0, k, and k pairs of a row and a multiplier
--     split   1, k, t, and k pairs of a variable and a coefficient; then the node where their sum is at
--             most t, then that where it is at least t + 1
use Rattle.std.specs.Prelude.{ℕ, zero, suc, ◌+◌, ◌*◌, ◌^◌, ◌-◌, ◌==◌, nat_le, nat_lt, ℤ, pos, ◌+ℤ◌, int_lt, List}
use Rattle.std.specs.Prelude.{[], ◌∷◌, ◌++◌, Bool, not, ◌&&◌, Option, None, Some, if◌then◌else◌, length}
use Rattle.std.specs.Prelude.{slice_index_or}
use Rattle.std.specs.Ordering.{int_eq}
use Rattle.std.specs.Int.RustNames.{unsigned_abs}
use Rattle.row_checker.specs.declared.row.Multiple.{Multiple}
use Rattle.row_checker.specs.declared.leaf.LeafEnd.{LeafEnd}
use Rattle.row_checker.specs.declared.leaf.LeafEnd.TheVariants as leaf
use Rattle.row_checker.specs.declared.numbers.Head.{Head}
use Rattle.row_checker.specs.declared.numbers.Head.TheVariants as head
use Rattle.row_checker.specs.declared.verdict.Verdict.{Verdict}
use Rattle.row_checker.specs.declared.verdict.Verdict.TheVariants.{Shown, Not}
use Rattle.row_checker.specs.declared.verdict.Fault.{Fault}
use Rattle.row_checker.specs.declared.verdict.Fault.TheVariants.{NotShown, TooGreat, TooDeep, Shape, Row, Variable}
use Rattle.row_checker.specs.declared.verdict.End.{End}
use Rattle.row_checker.specs.declared.verdict.End.TheVariants.{Stands, Stops}
use Rattle.row_checker.specs.declared.tree.TheConstants.{MOST_DEPTH}
use Rattle.row_checker.specs.Rows.{LinearRow}
use Rattle.row_checker.specs.Leaves.{end_of}

-- the number at a place; 0 where there is none
abbrev pub number_at : List ℤ → ℕ → ℤ
number_at numbers p = slice_index_or numbers p (pos 0)

-- a leaf, or a split, of k pairs stands at a place; the greatest i64 is no t
abbrev pub is_leaf : List ℤ → ℕ → ℕ → Bool
is_leaf numbers p k = int_eq (number_at numbers p) (pos 0) && nat_le (p + 2 + 2 * k) (length numbers)

abbrev pub is_split : List ℤ → ℕ → ℕ → Bool
is_split numbers p k =
    int_eq (number_at numbers p) (pos 1) && (nat_le (p + 3 + 2 * k) (length numbers)
    && int_lt (number_at numbers (p + 2)) (pos (2 ^ 63 - 1)))

-- what stands at a place
abbrev pub head_with : List ℤ → ℕ → ℕ → Head
head_with numbers p k =
    if is_leaf numbers p k then head.Leaf k else (if is_split numbers p k then head.Split k else head.None)

abbrev pub head_of : List ℤ → ℕ → Head
head_of numbers p =
    if int_lt (number_at numbers (p + 1)) (pos 0) then head.None
    else head_with numbers p (unsigned_abs (number_at numbers (p + 1)))

-- one of 0, 1, .. below the limit
abbrev pub is_named : ℤ → ℕ → Bool
is_named z limit = not (int_lt z (pos 0)) && nat_lt (unsigned_abs z) limit

-- the place of the first of k pairs whose first number isn't below the limit
abbrev pub first_unnamed : List ℤ → ℕ → ℕ → ℕ → Option ℕ
first_unnamed numbers p zero limit = None
first_unnamed numbers p (suc k) limit =
    if is_named (number_at numbers p) limit then first_unnamed numbers (p + 2) k limit else Some p

-- the pair at a place, and k pairs from a place on
abbrev pub multiple_at : List ℤ → ℕ → Multiple
multiple_at numbers p = record { of = unsigned_abs (number_at numbers p); times = number_at numbers (p + 1) }

abbrev pub multiples_at : List ℤ → ℕ → ℕ → List Multiple
multiples_at numbers p zero = []
multiples_at numbers p (suc k) = multiples_at numbers p k ++ multiple_at numbers (p + 2 * k) ∷ []

-- the rows of the halves of a split: at most t, at least t + 1
abbrev pub low_row : List Multiple → ℤ → LinearRow
low_row terms t = record { least = None; most = Some t; terms = terms }

abbrev pub high_row : List Multiple → ℤ → LinearRow
high_row terms t = record { least = Some (t +ℤ pos 1); most = None; terms = terms }

-- the fault, if there is one, or else the end
abbrev pub or_stop : Option ℕ → (ℕ → Fault) → End → End
or_stop None fault end = end
or_stop (Some q) fault end = Stops (fault q)

-- how a leaf of k multiples ends
abbrev pub shown_by : LeafEnd → ℕ → ℕ → End
shown_by leaf.Shows p q = Stands q
shown_by leaf.TooGreat p q = Stops (TooGreat p)
shown_by leaf.Lacks p q = Stops (NotShown p)

abbrev pub leaf_ends : ℕ → List ℤ → List LinearRow → ℕ → ℕ → End
leaf_ends n numbers rows p k =
    or_stop (first_unnamed numbers (p + 2) k (length rows)) (λ q. Row q)
    (shown_by (end_of n rows (multiples_at numbers (p + 2) k)) p (p + 2 + 2 * k))

abbrev pub at_head : Head → ℕ → (ℕ → End) → (ℕ → End) → End
at_head head.None p leaf_end split_end = Stops (Shape p)
at_head (head.Leaf k) p leaf_end split_end = leaf_end k
at_head (head.Split k) p leaf_end split_end = split_end k

-- what follows a part that shows its claim
abbrev pub and_then : End → (ℕ → End) → End
and_then (Stands q) next = next q
and_then (Stops fault) next = Stops fault

-- how a split of k terms ends: both halves, each with its row after the rows, show that no plan meets
-- them, or the first fault counts. `next` says how the halves end
abbrev pub split_ends : ℕ → List ℤ → (List LinearRow → ℕ → End) → List LinearRow → ℕ → ℕ → End
split_ends n numbers next rows p k =
    or_stop (first_unnamed numbers (p + 3) k n) (λ q. Variable q)
    (and_then (next (rows ++ low_row (multiples_at numbers (p + 3) k) (number_at numbers (p + 2)) ∷ []) (p + 3 + 2 * k))
    (λ q. next (rows ++ high_row (multiples_at numbers (p + 3) k) (number_at numbers (p + 2)) ∷ []) q))

-- how the tree at a place ends, below these rows, with at most so many splits above a leaf
unfoldable pub tree_ends : ℕ → List ℤ → ℕ → List LinearRow → ℕ → End
tree_ends n numbers zero rows p =
    at_head (head_of numbers p) p (leaf_ends n numbers rows p) (λ k. Stops (TooDeep p))
tree_ends n numbers (suc deep) rows p =
    at_head (head_of numbers p) p (leaf_ends n numbers rows p) (split_ends n numbers (tree_ends n numbers deep) rows p)

-- nothing follows the tree
abbrev pub whole : ℕ → End → Verdict
whole long (Stands q) = if q == long then Shown else Not (Shape q)
whole long (Stops fault) = Not fault

-- what a list of numbers shows
abbrev pub verdict_on : ℕ → List LinearRow → List ℤ → Verdict
verdict_on n rows numbers = whole (length numbers) (tree_ends n numbers MOST_DEPTH rows 0)
