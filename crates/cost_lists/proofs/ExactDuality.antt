-- Weak duality with exact prices: no assignment is better than one whose persons have choices, if
-- the prices of unowned objects are 0.
use Rattle.std.proofs.Common.{◌≡◌, ℕ, ℤ, pos, ◌+ℤ◌, ◌-ℤ◌, ◌≤ℤ◌, ◌<◌, zero, suc, List, [], ◌∷◌, Option, None, Some}
use Rattle.std.proofs.Common.{IsSome, unwrap_or, length, get_or, nat_eq, cond, true, false, ◌⊎◌, inl, inr, refl, arith}
use Rattle.std.proofs.Common.{rules, ap, sym, ◌∙◌}
use Rattle.std.specs.List.{All, Contains}
use Rattle.std.proofs.lemmas.Int.{ints}
use Rattle.std.proofs.lemmas.Bool.{cases_lt, cond-true, cond-false}
use Rattle.std.proofs.lemmas.Bool.Decides.{eqb_tells}
use Rattle.std.proofs.lemmas.List.{get_or_past}
use Rattle.assign_core.specs.declared.sense.Sense.{Sense}
use Rattle.assign_core.specs.declared.sense.Sense.TheVariants.{Min, Max}
use Rattle.assign_core.specs.Numbered.{IsNumber}
use Rattle.assign_core.specs.Rows.{Listing, IsWithin, listed_in, listed_or_zero}
use Rattle.assign_core.specs.Assignment.{AreListed, IsAssignment, IsBest, IsNoWorse, total}
use Rattle.assign_core.specs.Prices.{price_of}
use Rattle.assign_core.proofs.Distinct.{InRange, at_most_all, sum_z, up_to}
use Rattle.assign_core.proofs.Listed.{objects_within}
use Rattle.assign_core.proofs.Members.{first_or_later}
use Rattle.cost_lists.specs.ListedCosts.{ListedCosts, AreInLimits}
use Rattle.cost_lists.specs.Exact.{AreChoices, AreFree, IsOptimum, IsPriceInLimits}

-- f with 0 at x
abbrev cleared : (ℕ → ℤ) → ℕ → ℕ → ℤ
cleared f x j = cond (nat_eq j x) (pos 0) (f j)

cleared_here : (f : ℕ → ℤ) (x j : ℕ) → nat_eq j x ≡ true → cleared f x j ≡ pos 0
cleared_here f x j e = cond-true (nat_eq j x) (pos 0) (f j) e

cleared_other : (f : ℕ → ℤ) (x j : ℕ) → nat_eq j x ≡ false → cleared f x j ≡ f j
cleared_other f x j e = cond-false (nat_eq j x) (pos 0) (f j) e

cleared_below : (f : ℕ → ℤ) (x m : ℕ) → m < x → up_to f m ≡ up_to (cleared f x) m
cleared_below f x zero lt = refl
cleared_below f x (suc m) lt = elim (eqb_tells (suc m) x) [
  | inl e ↦ let same = e.1 in absurd (omega arith)
  | inr e ↦ let i = cleared_below f x m (omega arith) in let h = cleared_other f x (suc m) e.0 in omega (arith, ints)
]

cleared_one : (f : ℕ → ℤ) (x m : ℕ) → pos 0 ≤ℤ f x → up_to f m ≤ℤ (f x +ℤ up_to (cleared f x) m)
cleared_one f x zero p = omega (arith, ints)
cleared_one f x (suc m) p = elim (eqb_tells (suc m) x) [
  | inl e ↦
      let same = e.1 in
      let b = cleared_below f x m (omega arith) in
      let h = cleared_here f x (suc m) e.0 in
      let there = ap f same in
      omega (arith, ints)
  | inr e ↦ let i = cleared_one f x m p in let h = cleared_other f x (suc m) e.0 in omega (arith, ints)
]

cleared_least : (f : ℕ → ℤ) (x j : ℕ) → pos 0 ≤ℤ f j → (pos 0 ≤ℤ cleared f x j) × (cleared f x j ≤ℤ f j)
cleared_least f x j p = elim (eqb_tells j x) [
  | inl e ↦ let h = cleared_here f x j e.0 in (omega (arith, ints), omega (arith, ints))
  | inr e ↦ let h = cleared_other f x j e.0 in (omega (arith, ints), omega (arith, ints))
]

cleared_sum : (f : ℕ → ℤ) (x m : ℕ) (xs : List ℕ) → InRange m xs → ((j : ℕ) → IsNumber m j → pos 0 ≤ℤ f j) →
    sum_z (cleared f x) xs ≤ℤ sum_z f xs
cleared_sum f x m [] r p = omega (arith, ints)
cleared_sum f x m (y ∷ ys) r p = let i = cleared_sum f x m ys r.1 p in let h = (cleared_least f x y (p y r.0)).1 in
    omega (arith, ints)

-- if no value is below 0, and it is 0 at each number outside a list, the sum over all numbers is at
-- most that over the list
pub all_at_most : (f : ℕ → ℤ) (m : ℕ) (xs : List ℕ) → InRange m xs → ((j : ℕ) → IsNumber m j → pos 0 ≤ℤ f j) →
    ((j : ℕ) → IsNumber m j → Contains xs j ⊎ (f j ≡ pos 0)) → up_to f m ≤ℤ sum_z f xs
all_at_most f m [] r p h = none m (λ j n. elim (h j n) [ inl c ↦ absurd (omega (arith, c.1)) | inr e ↦ e ]) where
  none : (k : ℕ) → ((j : ℕ) → IsNumber k j → f j ≡ pos 0) → up_to f k ≤ℤ pos 0
  none zero e = omega (arith, ints)
  none (suc k) e =
      let i = none k (λ j n. e j (record { first = n.first; last = let a = n.last in omega arith })) in
      let top = e (suc k) (record { first = omega arith; last = omega arith }) in
      omega (arith, ints)
all_at_most f m (x ∷ xs) r p h =
    let i = all_at_most (cleared f x) m xs r.1 (λ j n. (cleared_least f x j (p j n)).0)
    (λ j n. elim (eqb_tells j x) [
      | inl e ↦ inr (cleared_here f x j e.0)
      | inr e ↦ elim (h j n) [
        | inl c ↦ elim (first_or_later x xs j c) [ inl s ↦ absurd (e.1 (sym s)) | inr l ↦ inl l ]
        | inr z ↦ inr (cleared_other f x j e.0 ∙ z)
      ]
    ]) in
    let one = cleared_one f x m (p x r.0) in
    let s = cleared_sum f x m xs r.1 p in
    omega (arith, ints)

-- what stands where something stands
pub some_cost : (o : Option ℤ) → IsSome o → o ≡ Some (unwrap_or o (pos 0))
some_cost None s = absurd (search rules)
some_cost (Some c) s = refl

-- the sums over the rows
pub weak_min : (prices : List ℤ) (rows : List Listing) (xs ys : List ℕ) → AreChoices Min prices rows xs → AreListed rows ys →
    (total rows xs +ℤ sum_z (price_of prices) xs) ≤ℤ (total rows ys +ℤ sum_z (price_of prices) ys)
weak_min prices [] [] [] k g = omega (arith, ints)
weak_min prices [] [] (y ∷ ys) k g = absurd g
weak_min prices [] (x ∷ xs) ys k g = absurd k
weak_min prices (row ∷ rows) [] ys k g = absurd k
weak_min prices (row ∷ rows) (x ∷ xs) [] k g = absurd g
weak_min prices (row ∷ rows) (x ∷ xs) (y ∷ ys) k g =
    let h : (listed_or_zero row x +ℤ price_of prices x) ≤ℤ (listed_or_zero row y +ℤ price_of prices y) =
    k.0 y (listed_or_zero row y) (some_cost (listed_in row y) g.0) in
    let i = weak_min prices rows xs ys k.1 g.1 in
    omega (arith, ints)

pub weak_max : (prices : List ℤ) (rows : List Listing) (xs ys : List ℕ) → AreChoices Max prices rows xs → AreListed rows ys →
    (total rows ys +ℤ sum_z (price_of prices) xs) ≤ℤ (total rows xs +ℤ sum_z (price_of prices) ys)
weak_max prices [] [] [] k g = omega (arith, ints)
weak_max prices [] [] (y ∷ ys) k g = absurd g
weak_max prices [] (x ∷ xs) ys k g = absurd k
weak_max prices (row ∷ rows) [] ys k g = absurd k
weak_max prices (row ∷ rows) (x ∷ xs) [] k g = absurd g
weak_max prices (row ∷ rows) (x ∷ xs) (y ∷ ys) k g =
    let h : (listed_or_zero row y -ℤ price_of prices y) ≤ℤ (listed_or_zero row x -ℤ price_of prices x) =
    k.0 y (listed_or_zero row y) (some_cost (listed_in row y) g.0) in
    let i = weak_max prices rows xs ys k.1 g.1 in
    omega (arith, ints)

-- prices in a range from 0 on
pub no_price_below : (InLimits : ℤ → Type 0) → ((p : ℤ) → InLimits p → pos 0 ≤ℤ p) → (prices : List ℤ) (j : ℕ) → All InLimits prices → pos 0 ≤ℤ price_of prices j
no_price_below InLimits least prices zero h = omega (arith, ints)
no_price_below InLimits least prices (suc k) h = elim (cases_lt k (length prices)) [
  | inl lt ↦ least (get_or prices k (pos 0)) (h k (pos 0) lt)
  | inr past ↦ let e = get_or_past prices k (pos 0) past in omega (arith, ints)
]

pub ordered : (sense : Sense) (prices : List ℤ) (rows : List Listing) (xs ys : List ℕ) → AreChoices sense prices rows xs → AreListed rows ys →
    sum_z (price_of prices) ys ≤ℤ sum_z (price_of prices) xs → IsNoWorse sense (total rows xs) (total rows ys)
ordered Min prices rows xs ys k g s = let w = weak_min prices rows xs ys k g in omega (arith, ints)
ordered Max prices rows xs ys k g s = let w = weak_max prices rows xs ys k g in omega (arith, ints)

-- what no price beats is best, of any costs
pub best_by_choices : (sense : Sense) (m : ℕ) (rows : List Listing) (xs : List ℕ) (prices : List ℤ) → All (IsWithin m) rows →
    ((j : ℕ) → pos 0 ≤ℤ price_of prices j) → IsAssignment rows xs → AreChoices sense prices rows xs → AreFree m prices xs → IsBest sense rows xs
best_by_choices sense m rows xs prices within none assigned choices free = record {
  assigned = assigned;
  best = λ ys g.
      let inside = objects_within m rows ys within g.listed in
      let most = at_most_all (price_of prices) m ys g.apart inside (λ j n. none j) in
      let least = all_at_most (price_of prices) m xs (objects_within m rows xs within assigned.listed) (λ j n. none j) free in
      ordered sense prices rows xs ys choices g.listed (omega (arith, ints));
}

pub best_exact : (l : ListedCosts) (xs : List ℕ) (prices : List ℤ) → AreInLimits l → IsOptimum l xs prices → IsBest l.sense l.rows xs
best_exact l xs prices limits o = best_by_choices l.sense l.m l.rows xs prices limits.within (λ j. no_price_below IsPriceInLimits (λ p h. h.least) prices j o.in_range) o.assigned o.choices o.free
