-- Weak duality: what multiples of rows come to in a plan that meets the rows.
use Rattle.std.proofs.Common.{◌≡◌, ℕ, ℤ, pos, negsuc, zero, suc, ◌+ℤ◌, ◌*ℤ◌, ◌≤ℤ◌, ◌+◌, ◌*◌, ◌-◌, List, [], ◌∷◌}
use Rattle.std.proofs.Common.{Bool, true, false, Option, None, Some, All, length, get_or, refl, ap, sym, ◌∙◌, subst}
use Rattle.std.proofs.Common.{arith, inl, inr}
use Rattle.std.specs.Prelude.{◌==◌, if◌then◌else◌, is_some, int_lt}
use Rattle.std.specs.Option.{unwrap_or}
use Rattle.std.proofs.lemmas.Int.{ints}
use Rattle.std.proofs.lemmas.Bool.{and_parts, cases_lt}
use Rattle.std.proofs.lemmas.List.{get_or_past}
use Rattle.std.proofs.Math.Dec.{eqb-suc-suc, eqb-suc-zero, eqb-zero-suc}
use borrow.Author.Differences.{up, down}
use lib.IntN.{*ℤ-zero}
use Rattle.assign_core.proofs.Products.{distributes, opposite}
use Rattle.row_checker.specs.declared.row.Multiple.{Multiple}
use Rattle.row_checker.specs.Rows.{IsAtLeast, IsAtMost, LinearRow, Meets, Plan, if_chosen, row_at, side_of, total}
use Rattle.row_checker.specs.Leaves.{above_0, bound, coefficient, greatest, has_sides, side_or_0, weight}

-- the sum of the chosen variables' weights
abbrev pub chosen : Plan → (ℕ → ℤ) → ℤ
chosen [] w = pos 0
chosen (x ∷ plan) w = if_chosen x (w 0) +ℤ chosen plan (λ k. w (suc k))

same_chosen : (plan : Plan) (v w : ℕ → ℤ) → ((k : ℕ) → v k ≡ w k) → chosen plan v ≡ chosen plan w
same_chosen [] v w same = refl
same_chosen (x ∷ plan) v w same =
    let a : if_chosen x (v 0) ≡ if_chosen x (w 0) = ap (if_chosen x) (same 0) in
    let h = same_chosen plan (λ k. v (suc k)) (λ k. w (suc k)) (λ k. same (suc k)) in
    omega (arith, ints)

chosen_0 : (plan : Plan) → chosen plan (λ k. pos 0) ≡ pos 0
chosen_0 [] = refl
chosen_0 (true ∷ plan) = let h = chosen_0 plan in omega (arith, ints)
chosen_0 (false ∷ plan) = let h = chosen_0 plan in omega (arith, ints)

chosen_sum : (plan : Plan) (v w : ℕ → ℤ) → chosen plan (λ k. v k +ℤ w k) ≡ chosen plan v +ℤ chosen plan w
chosen_sum [] v w = refl
chosen_sum (true ∷ plan) v w = let h = chosen_sum plan (λ k. v (suc k)) (λ k. w (suc k)) in omega (arith, ints)
chosen_sum (false ∷ plan) v w = let h = chosen_sum plan (λ k. v (suc k)) (λ k. w (suc k)) in omega (arith, ints)

chosen_times : (plan : Plan) (y : ℤ) (w : ℕ → ℤ) → chosen plan (λ k. y *ℤ w k) ≡ y *ℤ chosen plan w
chosen_times [] y w = sym (*ℤ-zero y)
chosen_times (true ∷ plan) y w =
    let h = chosen_times plan y (λ k. w (suc k)) in
    let d = distributes y (w 0) (chosen plan (λ k. w (suc k))) in
    omega (arith, ints)
chosen_times (false ∷ plan) y w =
    let h = chosen_times plan y (λ k. w (suc k)) in
    let d = distributes y (pos 0) (chosen plan (λ k. w (suc k))) in
    let z = *ℤ-zero y in
    omega (arith, ints)

chosen_none : (x : Bool) → if_chosen x (pos 0) ≡ pos 0
chosen_none true = refl
chosen_none false = refl

-- a weight of one variable alone
chosen_one : (plan : Plan) (j : ℕ) (c : ℤ) → chosen plan (λ k. if j == k then c else pos 0) ≡ if_chosen (get_or plan j false) c
chosen_one [] j c = refl
chosen_one (x ∷ plan) zero c =
    let h : chosen plan (λ k. if 0 == suc k then c else pos 0) ≡ pos 0 =
    same_chosen plan (λ k. if 0 == suc k then c else pos 0) (λ k. pos 0) (λ k. ap (λ b. if b then c else pos 0)
    (eqb-zero-suc k)) ∙ chosen_0 plan in
    omega (arith, ints)
chosen_one (x ∷ plan) (suc j) c =
    let h : chosen plan (λ k. if suc j == suc k then c else pos 0) ≡ if_chosen (get_or plan j false) c =
    same_chosen plan (λ k. if suc j == suc k then c else pos 0) (λ k. if j == k then c else pos 0)
    (λ k. ap (λ b. if b then c else pos 0) (eqb-suc-suc j k)) ∙ chosen_one plan j c in
    let z : if_chosen x (if suc j == 0 then c else pos 0) ≡ pos 0 = ap (λ b. if_chosen x (if b then c else pos 0)) (eqb-suc-zero j) ∙ chosen_none x in
    omega (arith, ints)

total_is : (plan : Plan) (terms : List Multiple) → chosen plan (λ k. coefficient k terms) ≡ total plan terms
total_is plan [] = chosen_0 plan
total_is plan (t ∷ terms) =
    let s = chosen_sum plan (λ k. if t.of == k then t.times else pos 0) (λ k. coefficient k terms) in
    let o = chosen_one plan t.of t.times in
    let h = total_is plan terms in
    omega (arith, ints)

-- the sum over the rows of multiplier * the plan's sum
abbrev pub combined : Plan → List LinearRow → List Multiple → ℤ
combined plan rows [] = pos 0
combined plan rows (m ∷ ms) = (m.times *ℤ total plan (row_at rows m.of).terms) +ℤ combined plan rows ms

-- it is the sum of the chosen variables' weights
combined_is : (plan : Plan) (rows : List LinearRow) (ms : List Multiple) → chosen plan (weight rows ms) ≡ combined plan rows ms
combined_is plan rows [] = chosen_0 plan
combined_is plan rows (m ∷ ms) =
    let terms = (row_at rows m.of).terms in
    let s = chosen_sum plan (λ k. m.times *ℤ coefficient k terms) (weight rows ms) in
    let t = chosen_times plan m.times (λ k. coefficient k terms) in
    let o : m.times *ℤ chosen plan (λ k. coefficient k terms) ≡ m.times *ℤ total plan terms = ap (λ v. m.times *ℤ v) (total_is plan terms) in
    let h = combined_is plan rows ms in
    omega (arith, ints)

-- which is at most the sum of those above 0
at_most_above : (x : Bool) (z : ℤ) → if_chosen x z ≤ℤ pos (above_0 z)
at_most_above true (pos n) = omega (arith, ints)
at_most_above true (negsuc n) = omega (arith, ints)
at_most_above false z = omega (arith, ints)

at_most_greatest : (plan : Plan) (w : ℕ → ℤ) → chosen plan w ≤ℤ pos (greatest (length plan) w)
at_most_greatest [] w = omega (arith, ints)
at_most_greatest (x ∷ plan) w =
    let a = at_most_above x (w 0) in
    let h = at_most_greatest plan (λ k. w (suc k)) in
    omega (arith, ints)

-- products keep the order of the second factors, if the first is at least 0
in_order : (n : ℕ) (a b : ℤ) → a ≤ℤ b → (pos n *ℤ a) ≤ℤ (pos n *ℤ b)
in_order n a b h =
    let k : ℕ = up b + down a - (up a + down b) in
    let e : b ≡ a +ℤ pos k = omega (arith, ints) in
    let m : pos n *ℤ b ≡ (pos n *ℤ a) +ℤ (pos n *ℤ pos k) = ap (λ z. pos n *ℤ z) e ∙ distributes (pos n) a (pos k) in
    let q : pos n *ℤ pos k ≡ pos (n * k) = refl in
    omega (arith, ints)

-- and turn it otherwise
turned : (n : ℕ) (a b : ℤ) → a ≤ℤ b → (negsuc n *ℤ b) ≤ℤ (negsuc n *ℤ a)
turned n a b h =
    let x = opposite n a in
    let y = opposite n b in
    let m = in_order (suc n) a b h in
    omega (arith, ints)

-- a row that a plan meets, times a multiplier
side_below : (plan : Plan) (row : LinearRow) (y side : ℤ) → Meets plan row → side_of row y ≡ Some side → (y *ℤ side) ≤ℤ (y *ℤ total plan row.terms)
side_below plan row (pos zero) side m e = omega (arith, ints)
side_below plan row (pos (suc n)) side m e = in_order (suc n) side (total plan row.terms) (subst (λ o. IsAtLeast o (total plan row.terms)) e m.least)
side_below plan row (negsuc n) side m e = turned n (total plan row.terms) side (subst (λ o. IsAtMost o (total plan row.terms)) e m.most)

meets_at : (plan : Plan) (rows : List LinearRow) (k : ℕ) → All (Meets plan) rows → Meets plan (row_at rows k)
meets_at plan rows k all =
    elim (cases_lt k (length rows)) [
      | inl lt ↦ all k _ lt
      | inr ge ↦ subst (Meets plan) (sym (get_or_past rows k (record { least = None; most = None; terms = [] }) ge)) (record { least = tt; most = tt })
    ]

one_below : (plan : Plan) (row : LinearRow) (y : ℤ) (o : Option ℤ) → Meets plan row → side_of row y ≡ o →
    is_some o ≡ true → (y *ℤ unwrap_or o (pos 0)) ≤ℤ (y *ℤ total plan row.terms)
one_below plan row y None m e some = absurd cc
one_below plan row y (Some side) m e some = side_below plan row y side m e

bound_below : (plan : Plan) (rows : List LinearRow) (ms : List Multiple) → All (Meets plan) rows →
    has_sides rows ms ≡ true → bound rows ms ≤ℤ combined plan rows ms
bound_below plan rows [] all have = omega (arith, ints)
bound_below plan rows (m ∷ ms) all have =
    let row = row_at rows m.of in
    let p = and_parts (is_some (side_of row m.times)) (has_sides rows ms) have in
    let a : (m.times *ℤ side_or_0 rows m) ≤ℤ (m.times *ℤ total plan row.terms) =
    one_below plan row m.times (side_of row m.times) (meets_at plan rows m.of all) refl p.0 in
    let h = bound_below plan rows ms all p.1 in
    omega (arith, ints)

-- multiples whose greatest weighed sum is below their bound leave no plan
pub none_meets : (plan : Plan) (rows : List LinearRow) (ms : List Multiple) → All (Meets plan) rows → has_sides rows ms ≡ true →
    int_lt (pos (greatest (length plan) (weight rows ms))) (bound rows ms) ≡ true → ⊥
none_meets plan rows ms all have less =
    let b = bound_below plan rows ms all have in
    let c = combined_is plan rows ms in
    let g = at_most_greatest plan (weight rows ms) in
    grind (arith, ints)
