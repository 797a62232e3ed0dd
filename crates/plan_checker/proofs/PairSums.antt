-- Sums over the pairs of two assignments.
use Rattle.std.proofs.Common.{◌≡◌, ℕ, ℤ, pos, ◌+ℤ◌, ◌≤ℤ◌, ◌<◌, zero, suc, List, [], ◌∷◌, length, get_or, refl, arith}
use Rattle.std.proofs.lemmas.Int.{ints}
use Rattle.assign_core.specs.declared.sense.Sense.{Sense}
use Rattle.assign_core.specs.declared.sense.Sense.TheVariants.{Min, Max}
use Rattle.assign_core.specs.Rows.{Listing, listed_or_zero}
use Rattle.assign_core.specs.Assignment.{AreListed, total}
use Rattle.assign_core.specs.Prices.{price_of}
use Rattle.assign_core.proofs.Distinct.{sum_z}
use Rattle.cost_lists.specs.Blocks.{reduced_sum}
use Rattle.cost_lists.specs.Own.{minimised}

-- the sum of a function over rows with their objects
abbrev pub sum_over : (Listing → ℕ → ℤ) → List Listing → List ℕ → ℤ
sum_over f [] xs = pos 0
sum_over f (row ∷ rows) [] = pos 0
sum_over f (row ∷ rows) (x ∷ xs) = f row x +ℤ sum_over f rows xs

-- no row's value is greater by its first object than by its second
abbrev pub AreUp : (Listing → ℕ → ℤ) → List Listing → List ℕ → List ℕ → Type 0
AreUp f rows xs ys = (i : ℕ) → i < length rows → f (get_or rows i []) (get_or xs i 0) ≤ℤ f (get_or rows i []) (get_or ys i 0)

-- each row's value rises by at most as much as the sum
abbrev pub RiseWithin : (Listing → ℕ → ℤ) → List Listing → List ℕ → List ℕ → ℤ → ℤ → Type 0
RiseWithin f rows xs ys from to =
    (i : ℕ) → i < length rows → (f (get_or rows i []) (get_or ys i 0) +ℤ from) ≤ℤ (f (get_or rows i []) (get_or xs i 0) +ℤ to)

module _ (f : Listing → ℕ → ℤ) where
  rise_first : (row : Listing) (rows : List Listing) (x y : ℕ) (xs ys : List ℕ) (from to : ℤ) → (f row y +ℤ from) ≤ℤ (f row x +ℤ to) →
      RiseWithin f rows xs ys from to → RiseWithin f (row ∷ rows) (x ∷ xs) (y ∷ ys) from to
  rise_first row rows x y xs ys from to here later zero lt = here
  rise_first row rows x y xs ys from to here later (suc k) lt = later k (omega arith)

  rise_more : (rows : List Listing) (xs ys : List ℕ) (from to a b : ℤ) → RiseWithin f rows xs ys from to → (to +ℤ a) ≤ℤ (from +ℤ b) → RiseWithin f rows xs ys a b
  rise_more rows xs ys from to a b h more i lt = let here = h i lt in omega (arith, ints)

  pub sums_up : (rows : List Listing) (xs ys : List ℕ) → AreListed rows xs → AreListed rows ys → AreUp f rows xs ys →
      (sum_over f rows xs ≤ℤ sum_over f rows ys) × RiseWithin f rows xs ys (sum_over f rows xs) (sum_over f rows ys)
  sums_up [] xs ys a b up = (omega (arith, ints), (λ i lt. absurd (omega arith)))
  sums_up (row ∷ rows) [] ys a b up = absurd a
  sums_up (row ∷ rows) (x ∷ xs) [] a b up = absurd b
  sums_up (row ∷ rows) (x ∷ xs) (y ∷ ys) a b up =
      let later = sums_up rows xs ys a.1 b.1 (λ i lt. up (suc i) (omega arith)) in
      let here : f row x ≤ℤ f row y = up 0 (omega arith) in
      let rest = later.0 in
      let from : ℤ = f row x +ℤ sum_over f rows xs in
      let to : ℤ = f row y +ℤ sum_over f rows ys in
      let more : RiseWithin f rows xs ys from to = rise_more rows xs ys (sum_over f rows xs) (sum_over f rows ys) from to later.1 (omega (arith, ints)) in
      (omega (arith, ints), rise_first row rows x y xs ys from to (omega (arith, ints)) more)

-- the turned cost of a row's object, with its price
abbrev pub reduced : Sense → List ℤ → Listing → ℕ → ℤ
reduced sense prices row x = reduced_sum sense prices x (listed_or_zero row x)

turned_sum : (s : Sense) (a b c : ℤ) → minimised s a +ℤ (minimised s b +ℤ c) ≡ minimised s (a +ℤ b) +ℤ c
turned_sum Min a b c = omega (arith, ints)
turned_sum Max a b c = omega (arith, ints)

turned_zero : (s : Sense) → minimised s (pos 0) ≡ pos 0
turned_zero Min = refl
turned_zero Max = refl

pub sum_reduced : (sense : Sense) (prices : List ℤ) (rows : List Listing) (xs : List ℕ) → AreListed rows xs →
    sum_over (reduced sense prices) rows xs ≡ minimised sense (total rows xs) +ℤ sum_z (price_of prices) xs
sum_reduced sense prices [] [] a = let e = turned_zero sense in omega (arith, ints)
sum_reduced sense prices [] (x ∷ xs) a = absurd a
sum_reduced sense prices (row ∷ rows) [] a = absurd a
sum_reduced sense prices (row ∷ rows) (x ∷ xs) a =
    let i = sum_reduced sense prices rows xs a.1 in
    let t = turned_sum sense (listed_or_zero row x) (total rows xs) (sum_z (price_of prices) xs) in
    omega (arith, ints)

-- a value that the objects alone have
pub sum_alone : (g : ℕ → ℤ) (rows : List Listing) (xs : List ℕ) → AreListed rows xs → sum_over (λ row. g) rows xs ≡ sum_z g xs
sum_alone g [] [] a = refl
sum_alone g [] (x ∷ xs) a = absurd a
sum_alone g (row ∷ rows) [] a = absurd a
sum_alone g (row ∷ rows) (x ∷ xs) a = let i = sum_alone g rows xs a.1 in omega (arith, ints)
