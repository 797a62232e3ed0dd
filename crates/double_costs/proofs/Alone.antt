-- A plan that is best by a margin is better than each other assignment.
use Rattle.std.proofs.Common.{◌≡◌, ◌≢◌, ℕ, ℤ, pos, ◌+ℤ◌, ◌-ℤ◌, ◌≤ℤ◌, ◌<ℤ◌, List, [], ◌∷◌, IsSome}
use Rattle.std.proofs.Common.{length, inl, inr, refl, arith, ap, sym, ◌∙◌}
use Rattle.std.specs.List.{All}
use Rattle.std.proofs.lemmas.Int.{ints}
use Rattle.std.proofs.lemmas.Bool.Decides.{eqb_tells}
use Rattle.std.proofs.lemmas.Slice.Zip.{AllZip-long}
use Rattle.assign_core.specs.declared.sense.Sense.{Sense}
use Rattle.assign_core.specs.declared.sense.Sense.TheVariants.{Min, Max}
use Rattle.assign_core.specs.Rows.{Listing, listed_in, listed_or_zero, IsWithin}
use Rattle.assign_core.specs.Assignment.{AreListed, total}
use Rattle.assign_core.specs.Prices.{price_of}
use Rattle.assign_core.proofs.Distinct.{sum_z}
use Rattle.assign_core.proofs.Listed.{objects_within}
use Rattle.cost_lists.specs.Exact.{AreChoices}
use Rattle.double_costs.specs.Prices.{AreChoicesBy, IsBetter, IsOnlyBest, IsPricedBest}
use Rattle.cost_lists.proofs.ExactDuality.{some_cost, weak_max, weak_min}
use Rattle.double_costs.proofs.PricedDuality.{least_sums}

-- the sums over the rows, of two assignments that aren't the same
strict_min : (margin : ℤ) (prices : List ℤ) (rows : List Listing) (xs ys : List ℕ) → pos 0 ≤ℤ margin →
    AreChoices Min prices rows xs → AreChoicesBy margin Min prices rows xs → AreListed rows ys → ys ≢ xs →
    (total rows xs +ℤ sum_z (price_of prices) xs) <ℤ (total rows ys +ℤ sum_z (price_of prices) ys)
strict_min margin prices [] [] [] p k b g d = absurd (d refl)
strict_min margin prices [] [] (y ∷ ys) p k b g d = absurd g
strict_min margin prices [] (x ∷ xs) ys p k b g d = absurd k
strict_min margin prices (row ∷ rows) [] ys p k b g d = absurd k
strict_min margin prices (row ∷ rows) (x ∷ xs) [] p k b g d = absurd g
strict_min margin prices (row ∷ rows) (x ∷ xs) (y ∷ ys) p k b g d = elim (eqb_tells y x) [
  | inl e ↦
      let h : (listed_or_zero row x +ℤ price_of prices x) ≤ℤ (listed_or_zero row y +ℤ price_of prices y) =
      k.0 y (listed_or_zero row y) (some_cost (listed_in row y) g.0) in
      let i = strict_min margin prices rows xs ys p k.1 b.1 g.1
      (λ same. d (ap (λ (j : ℕ). j ∷ ys) e.1 ∙ ap (λ (js : List ℕ). x ∷ js) same)) in
      omega (arith, ints)
  | inr e ↦
      let h : ((listed_or_zero row x +ℤ price_of prices x) +ℤ margin) <ℤ (listed_or_zero row y +ℤ price_of prices y) =
      b.0 y (listed_or_zero row y) e.1 (some_cost (listed_in row y) g.0) in
      let i = weak_min prices rows xs ys k.1 g.1 in
      omega (arith, ints)
]

strict_max : (margin : ℤ) (prices : List ℤ) (rows : List Listing) (xs ys : List ℕ) → pos 0 ≤ℤ margin →
    AreChoices Max prices rows xs → AreChoicesBy margin Max prices rows xs → AreListed rows ys → ys ≢ xs →
    (total rows ys +ℤ sum_z (price_of prices) xs) <ℤ (total rows xs +ℤ sum_z (price_of prices) ys)
strict_max margin prices [] [] [] p k b g d = absurd (d refl)
strict_max margin prices [] [] (y ∷ ys) p k b g d = absurd g
strict_max margin prices [] (x ∷ xs) ys p k b g d = absurd k
strict_max margin prices (row ∷ rows) [] ys p k b g d = absurd k
strict_max margin prices (row ∷ rows) (x ∷ xs) [] p k b g d = absurd g
strict_max margin prices (row ∷ rows) (x ∷ xs) (y ∷ ys) p k b g d = elim (eqb_tells y x) [
  | inl e ↦
      let h : (listed_or_zero row y -ℤ price_of prices y) ≤ℤ (listed_or_zero row x -ℤ price_of prices x) =
      k.0 y (listed_or_zero row y) (some_cost (listed_in row y) g.0) in
      let i = strict_max margin prices rows xs ys p k.1 b.1 g.1
      (λ same. d (ap (λ (j : ℕ). j ∷ ys) e.1 ∙ ap (λ (js : List ℕ). x ∷ js) same)) in
      omega (arith, ints)
  | inr e ↦
      let h : ((listed_or_zero row y -ℤ price_of prices y) +ℤ margin) <ℤ (listed_or_zero row x -ℤ price_of prices x) =
      b.0 y (listed_or_zero row y) e.1 (some_cost (listed_in row y) g.0) in
      let i = weak_max prices rows xs ys k.1 g.1 in
      omega (arith, ints)
]

in_strict_order : (sense : Sense) (margin : ℤ) (prices : List ℤ) (rows : List Listing) (xs ys : List ℕ) → pos 0 ≤ℤ margin →
    AreChoices sense prices rows xs → AreChoicesBy margin sense prices rows xs → AreListed rows ys → ys ≢ xs →
    sum_z (price_of prices) ys ≤ℤ sum_z (price_of prices) xs → IsBetter sense (total rows xs) (total rows ys)
in_strict_order Min margin prices rows xs ys p k b g d s =
    let w = strict_min margin prices rows xs ys p k b g d in omega (arith, ints)
in_strict_order Max margin prices rows xs ys p k b g d s =
    let w = strict_max margin prices rows xs ys p k b g d in omega (arith, ints)

pub only_best : (sense : Sense) (m : ℕ) (margin : ℤ) (rows : List Listing) (xs : List ℕ) (prices : List ℤ) →
    pos 0 ≤ℤ margin → All (IsWithin m) rows → IsPricedBest sense m rows xs prices →
    AreChoicesBy margin sense prices rows xs → IsOnlyBest sense rows xs
only_best sense m margin rows xs prices p w o b = record {
  assigned = o.assigned;
  only = λ ys g d.
      let listed = λ (row : Listing) (j : ℕ). IsSome (listed_in row j) in
      let la : length xs ≡ length rows = AllZip-long listed rows xs o.assigned.listed in
      let lb : length ys ≡ length rows = AllZip-long listed rows ys g.listed in
      let s = least_sums m prices xs ys g.apart (objects_within m rows xs w o.assigned.listed)
      (objects_within m rows ys w g.listed) (la ∙ sym lb) o.unowned in
      in_strict_order sense margin prices rows xs ys p o.choices b g.listed d s;
}
