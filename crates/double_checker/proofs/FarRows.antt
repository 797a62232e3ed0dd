-- An open row: the prices don't prove the plan best, or numbers are far apart.
use Rattle.std.proofs.Common.{◌≡◌, ℕ, ◌<◌, ◌≤◌, ◌+◌, ◌*◌, suc}
use Rattle.std.proofs.Common.{List, [], ◌∷◌, length}
use Rattle.std.proofs.Common.{inl, inr, IsTrue, arith, rules, refl, sym, ap, ◌∙◌, subst}
use Rattle.std.specs.Prelude.{unsigned_abs}
use Rattle.std.proofs.lemmas.Int.{ints}
use Rattle.std.proofs.Math.Nat.{mul-le-mul_right}
use mathlib.Core.Bool.{true≢false}
use lib.Ieee.{Float, nan}
use Rattle.assign_core.specs.declared.sense.Sense.{Sense}
use Rattle.assign_core.specs.Rows.{Listing, listed_or_zero, row_of}
use Rattle.assign_core.specs.Prices.{price_of}
use Rattle.assign_core.proofs.Zips.{pair_number}
use Rattle.cost_lists.specs.Exact.{IsChoice}
use Rattle.dual_checker.specs.Faults.{own_object}
use Rattle.double_costs.specs.Units.{units_of}
use Rattle.double_costs.specs.DoubleRows.{is_cost, row_of_doubles, rows_of_doubles}
use Rattle.double_costs.specs.Prices.{IsPricedBest}
use Rattle.double_costs.proofs.DoublePairs.{length-rows_of_doubles, part_length}
use Rattle.double_checker.specs.Far.{HasFar}
use Rattle.double_checker.specs.Verdicts.{AreCosts, IsFarApart, compared, price_units}
use Rattle.double_checker.specs.inside.Sizes.{size_of}
use Rattle.double_checker.specs.inside.Pairs.{at, row_part}
use Rattle.double_checker.specs.inside.Plans.{AreOwn, HasOpenRow, own_place}
use Rattle.double_checker.proofs.PlanRows.{listed_at, own_cost, paid_in_order, part_at}
use Rattle.double_checker.proofs.PlanRows.{price_at, size_abs}
use Rattle.double_checker.proofs.PlanPersons.{IsPerson, person_of}

-- an open row: the prices don't prove the plan best, or numbers are far apart
pub open_far : (sense : Sense) (m : ℕ) (costs : List Float) (xs : List ℕ) (prices : List Float) →
    length costs ≡ length xs * m → length prices ≡ m → AreOwn m costs xs → AreCosts sense costs →
    HasOpenRow sense m costs xs prices → IsPricedBest sense m (rows_of_doubles m (length xs) costs) xs
    (price_units prices) →
    (i : ℕ) × ((k : ℕ) × IsFarApart (rows_of_doubles m (length xs) costs) xs (price_units prices) i k)
open_far sense m costs xs prices long priced own each (i, lt, (j, within, reason)) best =
    let rows = rows_of_doubles m (length xs) costs in
    let row = row_part m i costs in
    let p = person_of m costs xs i long lt (own i lt) in
    let w = p.wide in
    let o = p.own_within in
    let x : Float = at row (own_place xs i) in
    let y : Float = at row j in
    let ex = own_cost row (own_place xs i) (omega arith) p.finite in
    let ep = price_at prices (own_place xs i) (omega arith) in
    let eq = price_at prices j (omega arith) in
    elim reason [
      | inl f ↦ absurd (true≢false (sym (cost_there sense m costs xs i j long lt (omega arith) each) ∙ f))
      | inr f ↦
          let ly = listed_at row j within f.finite in
          let ey = own_cost row j within f.finite in
          elim f.reason [
            | inl l ↦
                let c : IsChoice sense (price_units prices) (row_of_doubles 1 row) (own_place xs i + 1) =
                subst (λ (q : ℕ). IsChoice sense (price_units prices) (row_of_doubles 1 row) q) p.object
                (subst (λ (r : Listing). IsChoice sense (price_units prices) r (own_object xs (i + 1))) p.row
                (pair_number (IsChoice sense (price_units prices)) rows xs (i + 1) [] 0 best.choices (omega arith)
                (let s = length-rows_of_doubles m (length xs) costs in omega arith))) in
                let h = paid_in_order sense (price_units prices) (own_place xs i + 1) (j + 1)
                (listed_or_zero (row_of_doubles 1 row) (own_place xs i + 1)) (units_of y) x
                (at prices (own_place xs i)) y (at prices j) ex ep refl eq (c (j + 1) (units_of y) ly) in
                absurd (omega (arith, ints))
            | inr g ↦ (
              i + 1,
              (
                j + 1,
                record {
                  listed = rw p.row (rw ly (search rules));
                  far = subst HasFar (sym (sizes_compared m costs xs prices i j p ex ep ey eq)) g;
                },
              ),
            )
          ]
    ]
  where
    cost_there : (sense : Sense) (m : ℕ) (costs : List Float) (xs : List ℕ) (i j : ℕ) →
        length costs ≡ length xs * m → i < length xs → j < m → AreCosts sense costs →
        IsTrue (is_cost sense (at (row_part m i costs) j))
    cost_there sense m costs xs i j long lt within each =
        let part = part_length (length xs) m i costs long lt in
        subst (λ (z : Float). IsTrue (is_cost sense z)) (sym (part_at m i j costs within))
        (each (i * m + j) nan (place_below i (length xs) m j lt within long))
      where
        place_below : (i n m j : ℕ) → i < n → j < m → length costs ≡ n * m → i * m + j < length costs
        place_below i n m j a b e = let most : suc i * m ≤ n * m = mul-le-mul_right m a in omega (arith, e)

    sizes_compared : (m : ℕ) (costs : List Float) (xs : List ℕ) (prices : List Float) (i j : ℕ) →
        (p : IsPerson m costs xs i) →
        listed_or_zero (row_of_doubles 1 (row_part m i costs)) (own_place xs i + 1)
        ≡ units_of (at (row_part m i costs) (own_place xs i)) →
        price_of (price_units prices) (own_place xs i + 1) ≡ units_of (at prices (own_place xs i)) →
        listed_or_zero (row_of_doubles 1 (row_part m i costs)) (j + 1) ≡ units_of (at (row_part m i costs) j) →
        price_of (price_units prices) (j + 1) ≡ units_of (at prices j) →
        compared (rows_of_doubles m (length xs) costs) xs (price_units prices) (i + 1) (j + 1)
        ≡ (size_of (at (row_part m i costs) (own_place xs i)) ∷ size_of (at prices (own_place xs i)) ∷ size_of
        (at (row_part m i costs) j) ∷ size_of (at prices j) ∷ [])
    sizes_compared m costs xs prices i j p ex ep ey eq =
        ap (λ (q : ℕ). unsigned_abs (listed_or_zero (row_of (rows_of_doubles m (length xs) costs) (i + 1)) q)
        ∷ unsigned_abs (price_of (price_units prices) q)
        ∷ unsigned_abs (listed_or_zero (row_of (rows_of_doubles m (length xs) costs) (i + 1)) (j + 1))
        ∷ unsigned_abs (price_of (price_units prices) (j + 1)) ∷ []) p.object
        ∙ ap (λ (r : Listing). unsigned_abs (listed_or_zero r (own_place xs i + 1))
        ∷ unsigned_abs (price_of (price_units prices) (own_place xs i + 1))
        ∷ unsigned_abs (listed_or_zero r (j + 1)) ∷ unsigned_abs (price_of (price_units prices) (j + 1)) ∷ []) p.row
        ∙ four (ap unsigned_abs ex ∙ size_abs (at (row_part m i costs) (own_place xs i)))
        (ap unsigned_abs ep ∙ size_abs (at prices (own_place xs i)))
        (ap unsigned_abs ey ∙ size_abs (at (row_part m i costs) j)) (ap unsigned_abs eq ∙ size_abs (at prices j))
      where
        four : {a b x y a' b' x' y' : ℕ} → a ≡ a' → b ≡ b' → x ≡ x' → y ≡ y' →
            (a ∷ b ∷ x ∷ y ∷ []) ≡ (a' ∷ b' ∷ x' ∷ y' ∷ [])
        four {a = a} {b = b} {x = x} {y = y} {a' = a'} {b' = b'} {x' = x'} e f g h =
            ap (λ z. z ∷ b ∷ x ∷ y ∷ []) e ∙ ap (λ z. a' ∷ z ∷ x ∷ y ∷ []) f ∙ ap (λ z. a' ∷ b' ∷ z ∷ y ∷ []) g
            ∙ ap (λ z. a' ∷ b' ∷ x' ∷ z ∷ []) h
