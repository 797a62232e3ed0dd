-- Plans that meet the rows where no plan meets these and the row of the costs.
use Rattle.std.proofs.Common.{◌≡◌, ℕ, zero, suc, ◌<◌, ◌-◌, ℤ, pos, ◌+ℤ◌, ◌≤ℤ◌, ◌++◌, List, [], ◌∷◌}
use Rattle.std.proofs.Common.{Bool, true, false, Option, None, Some, length, length-append, inl, inr}
use Rattle.std.proofs.Common.{refl, sym, ap, ◌∙◌, subst, arith}
use Rattle.std.specs.Prelude.{◌==◌, ◌&&◌, nat_lt, not, is_none, is_some, if◌then◌else◌}
use Rattle.std.proofs.lemmas.Int.{ints, by_lt_z}
use Rattle.std.proofs.lemmas.Bool.{and_parts, eqb-true, ltb-true, or_cases}
use Rattle.std.proofs.lemmas.List.{get_or_push}
use Rattle.std.proofs.lemmas.List.Elements.{All-push}
use Rattle.row_checker.specs.Rows.{LinearRow, Meets, NoPlan, row_at, total}
use Rattle.row_checker.specs.Trees.{low_row}
use Rattle.c_rows.specs.Answers.{all_rows, cost_bound, cost_row, other_rows}
use Rattle.c_rows.specs.Costs.{CostAtLeast, NoneIsCheaper}
use Rattle.c_rows.specs.Input.{AreRows, InputRows, have_lengths, row_of, rows_in, rows_of}
use Rattle.c_rows.specs.Lists.{bound_above, bound_below, whole_at}

pub none_is_cheaper : NoneIsCheaper
none_is_cheaper n rows costs bound none plan p =
    by_lt_z {P = (bound +ℤ pos 1) ≤ℤ total plan costs} bound (total plan costs)
    (λ lt. omega (arith, ints))
    (λ le.
    let m : Meets plan (low_row costs bound) = record { least = tt; most = le } in
    absurd (none plan (record { long = p.long; meets = All-push (Meets plan) rows (low_row costs bound) p.meets m })))

pub rows_long : (g : InputRows) (r : ℕ) → length (rows_of g r) ≡ r
rows_long g zero = refl
rows_long g (suc r) = let h = rows_long g r in omega (arith, length-append (rows_of g r) (row_of g r ∷ []))

-- with a plan there is a last row
pub has_last : (g : InputRows) → have_lengths g ≡ true → 0 < length g.plan → 0 < rows_in g
has_last g e some =
    let a = and_parts (not (length g.starts == 0)) _ e in
    let b = and_parts (length g.coefficients == length g.variables) _ a.1 in
    let d = and_parts (length g.least == rows_in g) _ b.1 in
    let f = and_parts (length g.most == rows_in g) _ d.1 in
    elim (or_cases (length g.plan == 0) ((length g.plan == g.n) && nat_lt 0 (rows_in g)) f.1) [
      | inl none ↦ absurd (omega (arith, eqb-true (length g.plan) 0 none))
      | inr both ↦ let h = and_parts (length g.plan == g.n) (nat_lt 0 (rows_in g)) both in ltb-true 0 (rows_in g) h.1
    ]

no_bound : (o : Option ℤ) → is_none o ≡ true → o ≡ None
no_bound None e = refl
no_bound (Some z) e = absurd cc

own_bound : (b : Bool) (z : ℤ) → is_some (if b then None else Some z) ≡ true → (if b then None else Some z) ≡ Some z
own_bound true z e = absurd cc
own_bound false z e = refl

-- the last row bounds the costs from above alone
last_row : (g : InputRows) → AreRows g → 0 < length g.plan →
    row_of g (rows_in g - 1) ≡ low_row (row_of g (rows_in g - 1)).terms (cost_bound g)
last_row g are some =
    let k : ℕ = rows_in g - 1 in
    elim (or_cases (length g.plan == 0) _ are.cost_row) [
      | inl none ↦ absurd (omega (arith, eqb-true (length g.plan) 0 none))
      | inr both ↦
          let sides = and_parts (is_none (bound_below (whole_at g.least k))) (is_some (bound_above (whole_at g.most k))) both in
          let least : bound_below (whole_at g.least k) ≡ None = no_bound (bound_below (whole_at g.least k)) sides.0 in
          let most : bound_above (whole_at g.most k) ≡ Some (whole_at g.most k) = own_bound _ (whole_at g.most k) sides.1 in
          let with_sides : Option ℤ → Option ℤ → LinearRow =
          λ low high. record { least = low; most = high; terms = (row_of g k).terms } in
          ap (λ (low : Option ℤ). with_sides low (bound_above (whole_at g.most k))) least
          ∙ ap (λ (high : Option ℤ). with_sides None high) most
    ]

-- all rows are the others and the last
with_last : (g : InputRows) → 0 < rows_in g → all_rows g ≡ other_rows g ++ row_of g (rows_in g - 1) ∷ []
with_last g some =
    let e : rows_in g ≡ suc (rows_in g - 1) = omega arith in
    ap (rows_of g) e

pub costs_least : (g : InputRows) → AreRows g → 0 < length g.plan → NoPlan g.n (all_rows g) →
    CostAtLeast (cost_bound g +ℤ pos 1) g.n (other_rows g) (cost_row g).terms
costs_least g are some none =
    let k : ℕ = rows_in g - 1 in
    let all : all_rows g ≡ other_rows g ++ row_of g k ∷ [] = with_last g (has_last g are.lengths some) in
    let rows : all_rows g ≡ other_rows g ++ low_row (row_of g k).terms (cost_bound g) ∷ [] =
    all ∙ ap (λ (r : LinearRow). other_rows g ++ r ∷ []) (last_row g are some) in
    let last : cost_row g ≡ row_of g k =
    ap (λ (rows : List LinearRow). row_at rows k) all
    ∙ get_or_push (other_rows g) (row_of g k) _ k (rows_long g k) in
    subst (CostAtLeast (cost_bound g +ℤ pos 1) g.n (other_rows g))
    (sym (ap (λ (r : LinearRow). r.terms) last))
    (none_is_cheaper g.n (other_rows g) (row_of g k).terms (cost_bound g) (subst (NoPlan g.n) rows none))
