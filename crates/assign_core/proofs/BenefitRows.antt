-- Benefits are in range; rows with benefits in place of costs.
use Rattle.std.proofs.Common.{◌≡◌, ℕ, ℤ, pos, negsuc, ◌+◌, ◌*◌, ◌≤◌, zero, suc, List, [], ◌∷◌, length, map, IsSome, refl, arith, inl, inr}
use Rattle.std.specs.Int.RustNames.{unsigned_abs}
use Rattle.std.proofs.Math.Nat.{mul-le-mul}
use Rattle.std.proofs.lemmas.Int.{ints, unsigned_abs-mul}
use Rattle.std.proofs.lemmas.List.{get_or-map, length-map}
use Rattle.std.proofs.lemmas.List.Elements.{All-map}
use Rattle.std.proofs.lemmas.Bool.Decides.{eqb_tells}
use Rattle.assign_core.specs.declared.sense.Sense.{Sense}
use Rattle.assign_core.specs.Numbered.{IsNumber}
use Rattle.assign_core.specs.declared.sense.Sense.TheVariants.{Min, Max}
use Rattle.assign_core.specs.declared.numbers.TheConstants.{MOST_PERSONS, GREATEST_COST}
use Rattle.assign_core.specs.Rows.{Listing, IsCost, IsSize, IsRising, IsWithin, listed_in, row_of}
use Rattle.assign_core.specs.Benefits.{factor, benefit, benefit_row, benefit_rows, IsBenefit}
use Rattle.assign_core.proofs.Listed.{listed_here, listed_later}

abs_factor : (sense : Sense) (n : ℕ) → unsigned_abs (factor sense n) ≡ n + 1
abs_factor Min n = omega arith
abs_factor Max n = refl

abs_cost : (c : ℤ) → IsCost c → unsigned_abs c ≤ unsigned_abs GREATEST_COST
abs_cost (pos k) h = let g = h.greatest in omega (arith, ints)
abs_cost (negsuc k) h = let g = h.least in omega (arith, ints)

from_abs : (a : ℤ) → unsigned_abs a ≤ (MOST_PERSONS + 1) * unsigned_abs GREATEST_COST → IsBenefit a
from_abs (pos k) h = record { least = omega (arith, ints); greatest = omega (arith, ints) }
from_abs (negsuc k) h = record { least = omega (arith, ints); greatest = omega (arith, ints) }

pub IsBenefit-benefit : (sense : Sense) (n : ℕ) (c : ℤ) → IsSize n → IsCost c → IsBenefit (benefit sense n c)
IsBenefit-benefit sense n c size cost =
    let f = abs_factor sense n in
    let m = unsigned_abs-mul (factor sense n) c in
    let few : n + 1 ≤ MOST_PERSONS + 1 = let s = size.few in omega arith in
    from_abs (benefit sense n c) (rw (m, f) (mul-le-mul few (abs_cost c cost)))

-- row i with benefits
pub row_of-benefits : (sense : Sense) (n : ℕ) (rows : List Listing) (i : ℕ) → row_of (map (benefit_row sense n) rows) i ≡ benefit_row sense n (row_of rows i)
row_of-benefits sense n rows zero = refl
row_of-benefits sense n [] (suc k) = refl
row_of-benefits sense n (row ∷ rows) (suc zero) = refl
row_of-benefits sense n (row ∷ rows) (suc (suc k)) = row_of-benefits sense n rows (suc k)

pub length-benefit_row : (sense : Sense) (n : ℕ) (row : Listing) → length (benefit_row sense n row) ≡ length row
length-benefit_row sense n row = simp length-map

pub length-benefit_rows : (sense : Sense) (rows : List Listing) → length (benefit_rows sense rows) ≡ length rows
length-benefit_rows sense rows = simp length-map

pub IsRising-benefit_row : (sense : Sense) (n : ℕ) (row : Listing) → IsRising row → IsRising (benefit_row sense n row)
IsRising-benefit_row sense n row rising = λ i k d lt last.
    let long = length-benefit_row sense n row in
    let first = get_or-map (λ e. (e.0, benefit sense n e.1)) row i d d (omega arith) in
    let second = get_or-map (λ e. (e.0, benefit sense n e.1)) row k d d (omega arith) in
    rw (first, second) (rising i k d lt (omega arith))

pub IsWithin-benefit_row : (sense : Sense) (n m : ℕ) (row : Listing) → IsWithin m row → IsWithin m (benefit_row sense n row)
IsWithin-benefit_row sense n m row within = All-map (λ e. IsNumber m e.0) (λ e. (e.0, benefit sense n e.1)) row within

-- an object is listed with a cost where it is listed with a benefit
pub cost_listed : (sense : Sense) (n : ℕ) (row : Listing) (j : ℕ) → IsSome (listed_in (benefit_row sense n row) j) → IsSome (listed_in row j)
cost_listed sense n [] j s = s
cost_listed sense n (e ∷ row) j s = elim (eqb_tells e.0 j) [
  | inl t ↦ rw (listed_here e row j t.0) refl
  | inr t ↦
      let skip = listed_later (e.0, benefit sense n e.1) (benefit_row sense n row) j t.0 in
      rw (listed_later e row j t.0) (cost_listed sense n row j (rw skip at s))
]
