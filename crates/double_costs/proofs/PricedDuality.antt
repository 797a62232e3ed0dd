-- Weak duality with exact prices of any size: no assignment is better than one whose persons have
-- choices, if the unowned objects have the least price.
use Rattle.std.proofs.Common.{◌≡◌, ℕ, ℤ, ◌+ℤ◌, ◌-ℤ◌, ◌≤ℤ◌, zero, suc, List, [], ◌∷◌}
use Rattle.std.proofs.Common.{IsSome, length, nat_eq, inl, inr, refl, arith}
use Rattle.std.proofs.Common.{sym, ◌∙◌, subst}
use Rattle.std.specs.List.{All, IsDistinct}
use Rattle.std.proofs.lemmas.Int.{ints, by_lt_z}
use Rattle.std.proofs.lemmas.Bool.Decides.{eqb_tells}
use Rattle.std.proofs.lemmas.Slice.Zip.{AllZip-long}
use Rattle.assign_core.specs.declared.sense.Sense.{Sense}
use Rattle.assign_core.specs.Numbered.{IsNumber}
use Rattle.assign_core.specs.Rows.{Listing, listed_in, IsWithin}
use Rattle.assign_core.specs.Assignment.{IsBest}
use Rattle.assign_core.specs.Prices.{price_of}
use Rattle.assign_core.proofs.Distinct.{InRange, sum_z, at_most_all}
use Rattle.assign_core.proofs.Listed.{objects_within}
use Rattle.cost_lists.proofs.ExactDuality.{all_at_most, ordered}
use Rattle.double_costs.specs.Prices.{AreLeastUnowned, IsPricedBest}

-- a sum of differences
sum_less : (f : ℕ → ℤ) (c : ℤ) (xs : List ℕ) → (sum_z (λ j. f j -ℤ c) xs +ℤ sum_z (λ _. c) xs) ≡ sum_z f xs
sum_less f c [] = refl
sum_less f c (x ∷ xs) = let i = sum_less f c xs in omega (arith, ints)

same_sums : (c : ℤ) (xs ys : List ℕ) → length xs ≡ length ys → sum_z (λ _. c) xs ≡ sum_z (λ _. c) ys
same_sums c [] [] e = refl
same_sums c [] (y ∷ ys) e = absurd (omega (arith, e))
same_sums c (x ∷ xs) [] e = absurd (omega (arith, e))
same_sums c (x ∷ xs) (y ∷ ys) e = let i = same_sums c xs ys (omega (arith, e)) in omega (arith, ints)

-- there is no number from 1 to 0
none_below : (j : ℕ) → IsNumber 0 j → ⊥
none_below j n = let a = n.first in let b = n.last in omega arith

-- a number from 1 to m has a value at most that of each
abbrev HasLeast : (ℕ → ℤ) → ℕ → Type 0
HasLeast f m = (k : ℕ) × IsNumber m k × ((j : ℕ) → IsNumber m j → f k ≤ℤ f j)

-- what holds of the numbers from 1 to m, and of m + 1, holds of the numbers from 1 to m + 1
one_more : (P : ℕ → Type 0) (m : ℕ) → ((j : ℕ) → IsNumber m j → P j) → P (suc m) → (j : ℕ) → IsNumber (suc m) j → P j
one_more P m h top j n = elim (eqb_tells j (suc m)) [
  | inl e ↦ subst P (sym e.1) top
  | inr e ↦ h j (record { first = n.first; last = let a = n.last in let b = e.1 in omega arith })
]

least_step : (f : ℕ → ℤ) (m : ℕ) → HasLeast f m → HasLeast f (suc m)
least_step f m (k, n, least) = by_lt_z {P = HasLeast f (suc m)} (f (suc m)) (f k)
    (λ lt. (
      suc m,
      record { first = omega arith; last = omega arith },
      one_more (λ j. f (suc m) ≤ℤ f j) m (λ j i. let h = least j i in omega (arith, ints)) (omega (arith, ints)),
    ))
    (λ le. (
      k,
      record { first = n.first; last = let a = n.last in omega arith },
      one_more (λ j. f k ≤ℤ f j) m least le,
    ))

-- one of the numbers from 1 to m + 1 has the least value
least_among : (f : ℕ → ℤ) (m : ℕ) → HasLeast f (suc m)
least_among f zero = (
  1,
  record { first = omega arith; last = omega arith },
  one_more (λ j. f 1 ≤ℤ f j) zero (λ j n. absurd (none_below j n)) (omega (arith, ints)),
)
least_among f (suc m) = least_step f (suc m) (least_among f m)

-- two lists of equally many different objects among m: if the objects outside the first have the
-- least price, the sum of the first's prices is at least that of the second's
pub least_sums : (m : ℕ) (prices : List ℤ) (xs ys : List ℕ) → IsDistinct nat_eq ys → InRange m xs → InRange m ys →
    length xs ≡ length ys → AreLeastUnowned m prices xs →
    sum_z (price_of prices) ys ≤ℤ sum_z (price_of prices) xs
least_sums zero prices [] [] dy rx ry l low = omega (arith, ints)
least_sums zero prices [] (y ∷ ys) dy rx ry l low = absurd (omega (arith, l))
least_sums zero prices (x ∷ xs) ys dy rx ry l low = absurd (none_below x rx.0)
least_sums (suc m) prices xs ys dy rx ry l low =
    let f : ℕ → ℤ = price_of prices in
    let k = least_among f m in
    let c : ℤ = f k.0 in
    let g : ℕ → ℤ = (λ j. f j -ℤ c) in
    let a = at_most_all g (suc m) ys dy ry (λ j n. let h = k.2 j n in omega (arith, ints)) in
    let b = all_at_most g (suc m) xs rx (λ j n. let h = k.2 j n in omega (arith, ints)) (λ j n. elim (low j k.0 n k.1) [
      | inl o ↦ inl o
      | inr e ↦ inr (let h = k.2 j n in omega (arith, ints))
    ]) in
    let x = sum_less f c xs in
    let y = sum_less f c ys in
    let s = same_sums c xs ys l in
    omega (arith, ints)

pub best_priced : (sense : Sense) (m : ℕ) (rows : List Listing) (xs : List ℕ) (prices : List ℤ) →
    All (IsWithin m) rows →
    IsPricedBest sense m rows xs prices → IsBest sense rows xs
best_priced sense m rows xs prices w o = record {
  assigned = o.assigned;
  best = λ ys g.
      let a = objects_within m rows xs w o.assigned.listed in
      let b = objects_within m rows ys w g.listed in
      let listed = λ (row : Listing) (j : ℕ). IsSome (listed_in row j) in
      let la : length xs ≡ length rows = AllZip-long listed rows xs o.assigned.listed in
      let lb : length ys ≡ length rows = AllZip-long listed rows ys g.listed in
      let s = least_sums m prices xs ys g.apart a b (la ∙ sym lb) o.unowned in
      ordered sense prices rows xs ys o.choices g.listed s;
}
