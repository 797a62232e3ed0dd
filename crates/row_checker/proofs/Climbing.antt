-- Down into the halves of splits, and up again.
use Rattle.std.proofs.Common.{◌≡◌, ℕ, ℤ, pos, suc, ◌+◌, ◌*◌, ◌-◌, ◌<◌, ◌≤◌, ◌^◌, List, [], ◌∷◌, ◌++◌, None, Some}
use Rattle.std.proofs.Common.{Option, length, length-append, refl, ap, sym, ◌∙◌, subst, arith}
use Rattle.std.specs.Prelude.{◌<ℤ◌}
use Rattle.row_checker.specs.declared.tree.TheConstants.{MOST_DEPTH}
use Rattle.row_checker.specs.declared.numbers.Head.TheVariants as head
use Rattle.row_checker.specs.declared.verdict.Fault.{Fault}
use Rattle.row_checker.specs.declared.verdict.Fault.TheVariants.{TooDeep, Variable}
use Rattle.row_checker.specs.declared.verdict.End.{End}
use Rattle.row_checker.specs.declared.verdict.End.TheVariants.{Stands, Stops}
use Rattle.row_checker.specs.Rows.{LinearRow}
use Rattle.row_checker.specs.Trees.{and_then, first_unnamed, head_of, high_row, low_row, multiples_at, number_at, or_stop, split_ends, tree_ends}
use Rattle.row_checker.specs.inside.Paths.{AreLess, IsAt, IsLess, below, ends_below, half_ends, left_over, whole_ends}
use Rattle.row_checker.proofs.Ends.{at_split, too_deep}

pub below_long : (given path : List LinearRow) → length (below given path) ≡ length given + length path
below_long given [] = omega arith
below_long given (row ∷ path) = let h = below_long given path in omega (arith, length-append (below given path) (row ∷ []))

-- a list with an element after it has one of each
pub snoc_same : {T : Type 0} (a b : List T) (x y : T) → a ++ x ∷ [] ≡ b ++ y ∷ [] → (a ≡ b) × (x ≡ y)
snoc_same [] [] x y e = (cc, cc)
snoc_same {T} [] (v ∷ b) x y e = absurd (omega (arith, ap length e, length-append b (y ∷ [])))
snoc_same {T} (u ∷ a) [] x y e = absurd (omega (arith, ap length e, length-append a (x ∷ [])))
snoc_same (u ∷ a) (v ∷ b) x y e =
    let t : a ++ x ∷ [] ≡ b ++ y ∷ [] = cc in
    let h : u ≡ v = cc in
    let s = snoc_same a b x y t in
    let l : a ≡ b = s.0 in
    (cc, s.1)

-- the same end in other words
pub with_end : (n : ℕ) (numbers : List ℤ) (given rows : List LinearRow) (all e f : End) → e ≡ f →
    IsAt n numbers given rows all e → IsAt n numbers given rows all f
with_end n numbers given rows all e f same at = subst (IsAt n numbers given rows all) same at

pub stops_deep : (n : ℕ) (numbers : List ℤ) (given rows : List LinearRow) (all : End) (p k : ℕ) → MOST_DEPTH ≤ length rows - length given →
    head_of numbers p ≡ head.Split k → IsAt n numbers given rows all (tree_ends n numbers (left_over given rows)
    rows p) → IsAt n numbers given rows all (Stops (TooDeep p))
stops_deep n numbers given rows all p k full e at =
    let none : left_over given rows ≡ 0 = omega arith in
    with_end n numbers given rows all _ _ (ap (λ d. tree_ends n numbers d rows p) none ∙ too_deep n numbers rows p k e) at

-- a split with room below it
opened : (n : ℕ) (numbers : List ℤ) (given rows : List LinearRow) (p k : ℕ) → length rows - length given < MOST_DEPTH → head_of numbers p ≡ head.Split k →
    tree_ends n numbers (left_over given rows) rows p ≡ split_ends n numbers (tree_ends n numbers (left_over given rows - 1)) rows p k
opened n numbers given rows p k room e =
    let more : left_over given rows ≡ suc (left_over given rows - 1) = omega arith in
    ap (λ d. tree_ends n numbers d rows p) more ∙ at_split n numbers (left_over given rows - 1) rows p k e

pub stops_unnamed : (n : ℕ) (numbers : List ℤ) (given rows : List LinearRow) (all : End) (p k q : ℕ) → length rows - length given < MOST_DEPTH →
    head_of numbers p ≡ head.Split k → Some q ≡ first_unnamed numbers (p + 3) k n →
    IsAt n numbers given rows all (tree_ends n numbers (left_over given rows) rows p) → IsAt n numbers given rows all (Stops (Variable q))
stops_unnamed n numbers given rows all p k q room e first at =
    let terms = multiples_at numbers (p + 3) k in
    let t = number_at numbers (p + 2) in
    let next = tree_ends n numbers (left_over given rows - 1) in
    with_end n numbers given rows all _ _
    (opened n numbers given rows p k room e
    ∙ ap (λ o. or_stop o (λ q. Variable q) (and_then (next (rows ++ low_row terms t ∷ []) (p + 3 + 2 * k))
    (λ q. next (rows ++ high_row terms t ∷ []) q))) (sym first)) at

-- down into the low half
pub goes_down : (n : ℕ) (numbers : List ℤ) (given rows : List LinearRow) (all : End) (p k : ℕ) → length rows - length given < MOST_DEPTH →
    head_of numbers p ≡ head.Split k → None ≡ first_unnamed numbers (p + 3) k n → number_at numbers (p + 2) <ℤ pos (2 ^ 63 - 1) →
    IsAt n numbers given rows all (tree_ends n numbers (left_over given rows) rows p) →
    (after : List LinearRow) → after ≡ rows ++ low_row (multiples_at numbers (p + 3) k) (number_at numbers (p + 2)) ∷ [] →
    IsAt n numbers given after all (tree_ends n numbers (left_over given after) after (p + 3 + 2 * k))
goes_down n numbers given rows all p k room e first less at after grown =
    let terms = multiples_at numbers (p + 3) k in
    let t = number_at numbers (p + 2) in
    let path = at.path in
    let low = low_row terms t in
    let high = high_row terms t in
    let next = tree_ends n numbers (left_over given rows - 1) in
    let long : length rows ≡ length given + length path = ap length at.are ∙ below_long given path in
    let d : left_over given rows - 1 ≡ MOST_DEPTH - length (high ∷ path) = omega arith in
    let f : left_over given rows - 1 ≡ left_over given (rows ++ low ∷ []) = omega (arith, length-append rows (low ∷ [])) in
    let whole : tree_ends n numbers (left_over given rows) rows p ≡ and_then (next (rows ++ low ∷ []) (p + 3 + 2 * k)) (λ q. next (rows ++ high ∷ []) q) =
    opened n numbers given rows p k room e
    ∙ ap (λ o. or_stop o (λ q. Variable q) (and_then (next (rows ++ low ∷ []) (p + 3 + 2 * k)) (λ q. next (rows ++ high ∷ []) q))) (sym first) in
    let halves : and_then (next (rows ++ low ∷ []) (p + 3 + 2 * k)) (λ q. next (rows ++ high ∷ []) q)
    ≡ and_then (tree_ends n numbers (left_over given (rows ++ low ∷ [])) (rows ++ low ∷ []) (p + 3 + 2 * k)) (λ q. ends_below n numbers given (high ∷ path) q) =
    ap (λ x. and_then (tree_ends n numbers x (rows ++ low ∷ []) (p + 3 + 2 * k)) (λ q. next (rows ++ high ∷ []) q)) f
    ∙ ap (λ x. and_then (tree_ends n numbers (left_over given (rows ++ low ∷ [])) (rows ++ low ∷ [])
    (p + 3 + 2 * k)) (λ q. tree_ends n numbers x (rows ++ high ∷ []) q)) d
    ∙ ap (λ r. and_then (tree_ends n numbers (left_over given (rows ++ low ∷ [])) (rows ++ low ∷ [])
    (p + 3 + 2 * k)) (λ q. tree_ends n numbers (MOST_DEPTH - length (high ∷ path)) (r ++ high ∷ []) q)) at.are in
    let here : IsAt n numbers given (rows ++ low ∷ []) all (tree_ends n numbers (left_over given (rows ++ low ∷ []))
    (rows ++ low ∷ []) (p + 3 + 2 * k)) = record {
      path = low ∷ path;
      are = ap (λ r. r ++ low ∷ []) at.are;
      deep = omega arith;
      less = (less, at.less);
      ends = ap (whole_ends n numbers given path) (sym (whole ∙ halves)) ∙ at.ends;
    } in
    subst (λ r. IsAt n numbers given r all (tree_ends n numbers (left_over given r) r (p + 3 + 2 * k))) (sym grown) here

-- the low half is done: the high one comes next
turned : (n : ℕ) (numbers : List ℤ) (given path : List LinearRow) (row : LinearRow) (all : End) (q : ℕ) (t : ℤ) → length (row ∷ path) ≤ MOST_DEPTH →
    AreLess path → whole_ends n numbers given path (half_ends n numbers given row path row.most (Stands q)) ≡ all → row.most ≡ Some t →
    IsAt n numbers given (below given path ++ high_row row.terms t ∷ []) all
    (tree_ends n numbers (left_over given (below given path ++ high_row row.terms t ∷ []))
    (below given path ++ high_row row.terms t ∷ []) q)
turned n numbers given path row all q t deep less ends most =
    let high = high_row row.terms t in
    let long = below_long given path in
    let d : left_over given (below given path ++ high ∷ []) ≡ MOST_DEPTH - length (high ∷ path) = omega (arith, length-append (below given path) (high ∷ [])) in
    record {
      path = high ∷ path;
      are = refl;
      deep = omega arith;
      less = (tt, less);
      ends = ap (λ x. whole_ends n numbers given path (tree_ends n numbers x (below given path ++ high ∷ []) q)) d
          ∙ ap (λ m. whole_ends n numbers given path (half_ends n numbers given row path m (Stands q))) (sym most) ∙ ends;
    }

pub turns_low : (n : ℕ) (numbers : List ℤ) (given rows init path : List LinearRow) (row : LinearRow) (all : End) (q : ℕ) (t : ℤ) →
    rows ≡ below given path → length path ≤ MOST_DEPTH → AreLess path → whole_ends n numbers given path (Stands q) ≡ all →
    rows ≡ init ++ row ∷ [] → length given ≤ length init → row.most ≡ Some t →
    (t <ℤ pos (2 ^ 63 - 1)) × IsAt n numbers given (init ++ high_row row.terms t ∷ []) all
    (tree_ends n numbers (left_over given (init ++ high_row row.terms t ∷ []))
    (init ++ high_row row.terms t ∷ []) q)
turns_low n numbers given rows init [] row all q t are deep less ends is long most =
    absurd (omega (arith, ap length are, ap length is, length-append init (row ∷ [])))
turns_low n numbers given rows init (r ∷ path) row all q t are deep less ends is long most =
    let s = snoc_same init (below given path) row r (sym is ∙ are) in
    let m : r.most ≡ Some t = ap (λ (x : LinearRow). x.most) (sym s.1) ∙ most in
    let here = turned n numbers given path r all q t deep less.1 ends m in (
      subst IsLess m less.0,
      subst (λ l. IsAt n numbers given (l ++ high_row row.terms t ∷ []) all
          (tree_ends n numbers (left_over given (l ++ high_row row.terms t ∷ [])) (l ++ high_row row.terms t ∷ [])
          q)) (sym s.0)
          (subst (λ (x : LinearRow). IsAt n numbers given (below given path ++ high_row x.terms t ∷ []) all
          (tree_ends n numbers (left_over given (below given path ++ high_row x.terms t ∷ []))
          (below given path ++ high_row x.terms t ∷ []) q)) (sym s.1) here),
    )

-- the high half is done, and so the split
pub turns_high : (n : ℕ) (numbers : List ℤ) (given rows init path : List LinearRow) (row : LinearRow) (all : End) (q : ℕ) →
    rows ≡ below given path → length path ≤ MOST_DEPTH → AreLess path → whole_ends n numbers given path (Stands q) ≡ all →
    rows ≡ init ++ row ∷ [] → length given ≤ length init → row.most ≡ None → IsAt n numbers given init all (Stands q)
turns_high n numbers given rows init [] row all q are deep less ends is long most =
    absurd (omega (arith, ap length are, ap length is, length-append init (row ∷ [])))
turns_high n numbers given rows init (r ∷ path) row all q are deep less ends is long most =
    let s = snoc_same init (below given path) row r (sym is ∙ are) in
    let m : r.most ≡ None = ap (λ (x : LinearRow). x.most) (sym s.1) ∙ most in
    record {
      path = path;
      are = s.0;
      deep = omega arith;
      less = less.1;
      ends = ap (λ o. whole_ends n numbers given path (half_ends n numbers given r path o (Stands q))) (sym m) ∙ ends;
    }

-- above the root there is no split
pub at_root : (n : ℕ) (numbers : List ℤ) (given rows path : List LinearRow) (all e : End) →
    rows ≡ below given path → whole_ends n numbers given path e ≡ all → length rows ≤ length given → e ≡ all
at_root n numbers given rows [] all e are ends short = ends
at_root n numbers given rows (r ∷ path) all e are ends short = absurd (omega (arith, ap length are, below_long given (r ∷ path)))

half_stops : (n : ℕ) (numbers : List ℤ) (given : List LinearRow) (row : LinearRow) (path : List LinearRow) (most : Option ℤ) (fault : Fault) →
    half_ends n numbers given row path most (Stops fault) ≡ Stops fault
half_stops n numbers given row path None fault = refl
half_stops n numbers given row path (Some t) fault = refl

-- a fault is the end of the whole
pub stops_all : (n : ℕ) (numbers : List ℤ) (given path : List LinearRow) (fault : Fault) → whole_ends n numbers given path (Stops fault) ≡ Stops fault
stops_all n numbers given [] fault = refl
stops_all n numbers given (row ∷ path) fault = ap (whole_ends n numbers given path)
    (half_stops n numbers given row path row.most fault) ∙ stops_all n numbers given path fault
