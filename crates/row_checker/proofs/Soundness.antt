-- A tree that stands leaves no plan.
use Rattle.std.proofs.Common.{◌≡◌, ℕ, ℤ, pos, zero, suc, ◌+◌, ◌*◌, ◌+ℤ◌, ◌≤ℤ◌, List, [], ◌∷◌, ◌++◌, Bool, true}
use Rattle.std.proofs.Common.{false, ◌&&◌, Option, None, Some, length, refl, ap, sym, ◌∙◌, arith}
use Rattle.std.specs.Prelude.{if◌then◌else◌, int_lt, nat_lt, ◌^◌}
use Rattle.std.proofs.lemmas.Int.{ints, by_lt_z}
use Rattle.std.proofs.lemmas.List.Elements.{All-push}
use Rattle.row_checker.specs.declared.row.Multiple.{Multiple}
use Rattle.row_checker.specs.declared.leaf.LeafEnd.{LeafEnd}
use Rattle.row_checker.specs.declared.leaf.LeafEnd.TheVariants as leaf
use Rattle.row_checker.specs.declared.numbers.Head.{Head}
use Rattle.row_checker.specs.declared.numbers.Head.TheVariants as head
use Rattle.row_checker.specs.declared.verdict.Verdict.TheVariants.{Shown}
use Rattle.row_checker.specs.declared.verdict.Fault.TheVariants.{Row, Variable}
use Rattle.row_checker.specs.declared.tree.TheConstants.{MOST_DEPTH}
use Rattle.row_checker.specs.declared.verdict.End.{End}
use Rattle.row_checker.specs.declared.verdict.End.TheVariants.{Stands, Stops}
use Rattle.row_checker.specs.Rows.{LinearRow, Meets, NoPlan, total}
use Rattle.row_checker.specs.Leaves.{bound, end_of, greatest, has_sides, size, weight}
use Rattle.row_checker.specs.Trees.{and_then, first_unnamed, head_of, high_row, leaf_ends, low_row, multiples_at}
use Rattle.row_checker.specs.Trees.{number_at, or_stop, shown_by, tree_ends, verdict_on, whole}
use Rattle.row_checker.proofs.Duality.{none_meets}
use Rattle.row_checker.proofs.Ends.{at_leaf, at_none, at_split, too_deep}

leaf_shows : (small have less : Bool) → (if small then (if have && less then leaf.Shows else leaf.Lacks) else
    leaf.TooGreat) ≡ leaf.Shows → (have ≡ true) × (less ≡ true)
leaf_shows false have less e = absurd cc
leaf_shows true false less e = absurd cc
leaf_shows true true false e = absurd cc
leaf_shows true true true e = (refl, refl)

-- a leaf that shows it leaves no plan
pub leaf_sound : (n : ℕ) (rows : List LinearRow) (ms : List Multiple) → end_of n rows ms ≡ leaf.Shows → NoPlan n rows
leaf_sound n rows ms e = λ plan p.
    let s = leaf_shows (nat_lt (size rows ms) (2 ^ 127)) (has_sides rows ms) (int_lt (pos (greatest n (weight rows ms))) (bound rows ms)) e in
    none_meets plan rows ms p.meets s.0 (ap (λ l. int_lt (pos (greatest l (weight rows ms))) (bound rows ms)) p.long ∙ s.1)

standing_leaf : (o : Option ℕ) (end : LeafEnd) (p q r : ℕ) → or_stop o (λ u. Row u) (shown_by end p q) ≡ Stands r → end ≡ leaf.Shows
standing_leaf (Some u) end p q r e = absurd cc
standing_leaf None leaf.Shows p q r e = refl
standing_leaf None leaf.TooGreat p q r e = absurd cc
standing_leaf None leaf.Lacks p q r e = absurd cc

standing_halves : (o : Option ℕ) (low : End) (high : ℕ → End) (r : ℕ) → or_stop o (λ u. Variable u) (and_then low high) ≡ Stands r →
    (q : ℕ) × (low ≡ Stands q) × (high q ≡ Stands r)
standing_halves (Some u) low high r e = absurd cc
standing_halves None (Stops v) high r e = absurd cc
standing_halves None (Stands q) high r e = (q, refl, e)

-- a plan meets the rows with that of one half
pub halves_sound : (n : ℕ) (rows : List LinearRow) (terms : List Multiple) (t : ℤ) →
    NoPlan n (rows ++ low_row terms t ∷ []) → NoPlan n (rows ++ high_row terms t ∷ []) → NoPlan n rows
halves_sound n rows terms t low high = λ plan p.
    by_lt_z {P = ⊥} t (total plan terms)
    (λ lt.
    let least : (t +ℤ pos 1) ≤ℤ total plan terms = omega (arith, ints) in
    let m : Meets plan (high_row terms t) = record { least = least; most = tt } in
    high plan (record { long = p.long; meets = All-push (Meets plan) rows (high_row terms t) p.meets m }))
    (λ le.
    let m : Meets plan (low_row terms t) = record { least = tt; most = le } in
    low plan (record { long = p.long; meets = All-push (Meets plan) rows (low_row terms t) p.meets m }))

leaf_case : (n : ℕ) (numbers : List ℤ) (rows : List LinearRow) (p k q : ℕ) → leaf_ends n numbers rows p k ≡ Stands q → NoPlan n rows
leaf_case n numbers rows p k q e =
    leaf_sound n rows (multiples_at numbers (p + 2) k)
    (standing_leaf (first_unnamed numbers (p + 2) k (length rows)) (end_of n rows (multiples_at numbers (p + 2) k)) p (p + 2 + 2 * k) q e)

-- no split may stand here
shallow : (n : ℕ) (numbers : List ℤ) (rows : List LinearRow) (p q : ℕ) (h : Head) → head_of numbers p ≡ h →
    tree_ends n numbers zero rows p ≡ Stands q → NoPlan n rows
shallow n numbers rows p q head.None at e = let s = at_none n numbers zero rows p at in absurd cc
shallow n numbers rows p q (head.Leaf k) at e = leaf_case n numbers rows p k q (sym (at_leaf n numbers zero rows p k at) ∙ e)
shallow n numbers rows p q (head.Split k) at e = let s = too_deep n numbers rows p k at in absurd cc

-- what holds of the halves holds of the split
deeper : (n : ℕ) (numbers : List ℤ) (deep : ℕ) → ((rows : List LinearRow) (p q : ℕ) → tree_ends n numbers deep rows p ≡ Stands q → NoPlan n rows) →
    (rows : List LinearRow) (p q : ℕ) (h : Head) → head_of numbers p ≡ h → tree_ends n numbers (suc deep) rows p ≡ Stands q → NoPlan n rows
deeper n numbers deep below rows p q head.None at e = let s = at_none n numbers (suc deep) rows p at in absurd cc
deeper n numbers deep below rows p q (head.Leaf k) at e = leaf_case n numbers rows p k q (sym (at_leaf n numbers (suc deep) rows p k at) ∙ e)
deeper n numbers deep below rows p q (head.Split k) at e =
    let terms = multiples_at numbers (p + 3) k in
    let t = number_at numbers (p + 2) in
    let next = tree_ends n numbers deep in
    let s = standing_halves (first_unnamed numbers (p + 3) k n) (next (rows ++ low_row terms t ∷ [])
    (p + 3 + 2 * k)) (λ q. next (rows ++ high_row terms t ∷ []) q) q
    (sym (at_split n numbers deep rows p k at) ∙ e) in
    halves_sound n rows terms t (below (rows ++ low_row terms t ∷ []) (p + 3 + 2 * k) s.0 s.1) (below (rows ++ high_row terms t ∷ []) s.0 q s.2)

pub sound : (n : ℕ) (numbers : List ℤ) (deep : ℕ) (rows : List LinearRow) (p q : ℕ) → tree_ends n numbers deep rows p ≡ Stands q → NoPlan n rows
sound n numbers zero rows p q e = shallow n numbers rows p q (head_of numbers p) refl e
sound n numbers (suc deep) rows p q e = deeper n numbers deep (λ r u v f. sound n numbers deep r u v f) rows p q (head_of numbers p) refl e

standing : (long : ℕ) (end : End) → whole long end ≡ Shown → (q : ℕ) × (end ≡ Stands q)
standing long (Stands q) e = (q, refl)
standing long (Stops fault) e = absurd cc

-- a list that is shown leaves no plan
pub verdict_sound : (n : ℕ) (rows : List LinearRow) (numbers : List ℤ) → verdict_on n rows numbers ≡ Shown → NoPlan n rows
verdict_sound n rows numbers e =
    let s = standing (length numbers) (tree_ends n numbers MOST_DEPTH rows 0) e in
    sound n numbers MOST_DEPTH rows 0 s.0 s.1
