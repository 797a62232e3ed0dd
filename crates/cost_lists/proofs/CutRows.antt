-- Rows cut from a list of costs: what they list, and their limits.
use Rattle.std.proofs.Common.{◌≡◌, ℕ, ℤ, pos, ◌<◌, ◌≤◌, ◌+◌, ◌-◌, ◌*◌, suc, List, [], Option, None, Some, IsSome}
use Rattle.std.proofs.Common.{length, get_or, drop, refl, arith, ap, sym, subst, ◌∙◌, add-one, length-take-le}
use Rattle.std.specs.List.{All}
use Rattle.std.proofs.Math.Nat.{mul-le-mul_right}
use Rattle.std.proofs.lemmas.List.{length-drop, get_or-take, get_or-drop, get_or_default}
use Rattle.std.proofs.lemmas.List.Elements.{All-drop, All-take}
use Rattle.assign_core.specs.Rows.{Listing, IsCost, IsWithin, listed_in, row_of}
use Rattle.assign_core.specs.Dense.{row_from, rows_cut}
use Rattle.cost_lists.specs.Source.{part_of}
use Rattle.assign_core.proofs.DensePairs.{row_cut, row_listed}
use Rattle.assign_core.proofs.DenseRows.{length-row_from, length-rows_cut, row_from-index}
use Rattle.assign_core.proofs.Listed.{place_of}
use Rattle.assign_core.specs.Numbered.{IsNumber}

pub part_fits : (n m i : ℕ) (costs : List ℤ) → length costs ≡ n * m → i < n → (i + 1) * m ≤ length costs
part_fits n m i costs long lt = let most : suc i * m ≤ n * m = mul-le-mul_right m lt in omega arith

pub part_long : (m i : ℕ) (costs : List ℤ) → (i + 1) * m ≤ length costs → length (part_of m i costs) ≡ m
part_long m i costs fits = let rest = length-drop (i * m) costs in length-take-le m (drop (i * m) costs) (omega arith)

pub part_each : (IsIn : ℤ → Type 0) (m i : ℕ) (costs : List ℤ) → All IsIn costs → All IsIn (part_of m i costs)
part_each IsIn m i costs each = All-take IsIn m (drop (i * m) costs) (All-drop IsIn (i * m) costs each)

pub part_costs : (m i : ℕ) (costs : List ℤ) → All IsCost costs → All IsCost (part_of m i costs)
part_costs m i costs each = part_each IsCost m i costs each

pub cut_row : (n m i : ℕ) (costs : List ℤ) → i < n → row_of (rows_cut m n costs) (i + 1) ≡ row_from 1 (part_of m i costs)
cut_row n m i costs lt = rw add-one (row_cut m n i costs lt)

pub cut_listed : (n m i j : ℕ) (costs : List ℤ) → length costs ≡ n * m → i < n → j < m →
    listed_in (row_of (rows_cut m n costs) (i + 1)) (j + 1) ≡ Some (get_or costs (i * m + j) (pos 0))
cut_listed n m i j costs long h k =
    let whole = part_long m i costs (part_fits n m i costs long h) in
    let e : j + 1 ≡ 1 + j = omega arith in
    ap (λ r. listed_in r (j + 1)) (cut_row n m i costs h)
    ∙ ap (listed_in (row_from 1 (part_of m i costs))) e
    ∙ row_listed 1 j (part_of m i costs) (omega arith)
    ∙ ap (λ c. Some c) (get_or-take m (drop (i * m) costs) j (pos 0) k ∙ get_or-drop (i * m) costs j (pos 0))

-- an object that a row of costs lists is the number of one of them
pub listed_number : (costs : List ℤ) (j : ℕ) → IsSome (listed_in (row_from 1 costs) j) → IsNumber (length costs) j
listed_number costs j s =
    let p = place_of (row_from 1 costs) j s in
    let below = p.below in
    let long = length-row_from 1 costs in
    let lt : p.place < length costs = omega arith in
    let at = ap (λ (e : ℕ × ℤ). e.0) (row_from-index 1 p.place costs (0, pos 0) (pos 0) lt) in
    let object = p.object (0, pos 0) in
    record { first = omega arith; last = omega arith }

pub no_cost : (costs : List ℤ) (j : ℕ) → ¬ IsNumber (length costs) j → listed_in (row_from 1 costs) j ≡ None
no_cost costs j not = none (listed_in (row_from 1 costs) j) (λ s. not (listed_number costs j s)) where
  none : (o : Option ℤ) → ¬ IsSome o → o ≡ None
  none None h = refl
  none (Some c) h = absurd (h refl)

pub cost_read : (costs : List ℤ) (j : ℕ) → IsNumber (length costs) j → Some (get_or costs (j - 1) (pos 0)) ≡ listed_in (row_from 1 costs) j
cost_read costs j number =
    let first = number.first in
    let last = number.last in
    let here : 1 + (j - 1) ≡ j = omega arith in
    sym (row_listed 1 (j - 1) costs (omega arith)) ∙ ap (listed_in (row_from 1 costs)) here

-- what holds of each object of a row with its cost
row_each : (P : ℕ × ℤ → Type 0) (costs : List ℤ) → ((k : ℕ) → k < length costs → P (1 + k, get_or costs k (pos 0))) → All P (row_from 1 costs)
row_each P costs h k d lt =
    let long = length-row_from 1 costs in
    let below : k < length costs = omega arith in
    subst P (sym (row_from-index 1 k costs d (pos 0) below)) (h k below)

module _ (n m : ℕ) (costs : List ℤ) (long : length costs ≡ n * m) where
  cut_each : (P : Listing → Type 0) → ((i : ℕ) → i < n → length (part_of m i costs) ≡ m → P (row_from 1 (part_of m i costs))) → All P (rows_cut m n costs)
  cut_each P of i d lt =
      let below : i < n = let e = length-rows_cut m n costs in omega arith in
      subst P (sym (get_or_default (rows_cut m n costs) i d [] lt ∙ row_cut m n i costs below))
      (of i below (part_long m i costs (part_fits n m i costs long below)))

  pub cut_within : All (IsWithin m) (rows_cut m n costs)
  cut_within = cut_each (IsWithin m) (λ i lt whole. row_each (λ e. IsNumber m e.0) (part_of m i costs)
      (λ k below. record { first = omega arith; last = omega arith }))

  pub cut_costs : (IsIn : ℤ → Type 0) → All IsIn costs → All (All (λ e. IsIn e.1)) (rows_cut m n costs)
  cut_costs IsIn each = cut_each (All (λ e. IsIn e.1)) (λ i lt whole. row_each (λ e. IsIn e.1) (part_of m i costs)
      (λ k below. part_each IsIn m i costs each k (pos 0) below))
