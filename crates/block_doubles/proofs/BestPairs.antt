-- The best pair of a row, a pair at a time.
use Rattle.std.proofs.Common.{◌≡◌, ℕ, ℤ, ◌≤ℤ◌, ◌<◌, ◌≤◌, ◌+◌, ◌-◌, List, length, false, IsTrue, inl, inr, refl, arith, ap, sym, subst, ◌∙◌}
use Rattle.std.proofs.lemmas.Bool.{cases_lt}
use Rattle.std.proofs.lemmas.Int.{ints}
use mathlib.Core.Bool.{true≢false}
use lib.Ieee.{Float}
use Rattle.assign_core.specs.declared.sense.Sense.{Sense}
use Rattle.assign_core.specs.Numbered.{IsNumber}
use Rattle.assign_core.proofs.NumberedLemmas.{low_or_same}
use Rattle.double_costs.specs.Units.{is_number}
use Rattle.double_checker.specs.inside.Pairs.{at, paid, row_part}
use Rattle.block_doubles.specs.declared.least.Best.{Best}
use Rattle.block_doubles.specs.inside.Places.{AreAbove, IsAboveGuess, IsBestFrom, IsBestOf, IsFirstBetter, IsFirstUnder, IsFound, IsFoundFrom, IsGuess, IsHere, IsLeastAt, IsLesser, IsMarkAt, IsStep, NoneBelow, NoneFinite, number_at}

pub below_more : (sense : Sense) (v : ℤ) (row prices : List Float) (k : ℕ) → NoneBelow sense v row prices k →
    (IsTrue (is_number (at row k)) → v ≤ℤ paid sense (at row k) (at prices k)) → NoneBelow sense v row prices (k + 1)
below_more sense v row prices k some one h lt = elim (low_or_same h k lt) [
  | inl l ↦ some h l
  | inr e ↦ subst (λ (i : ℕ). IsTrue (is_number (at row i)) → v ≤ℤ paid sense (at row i) (at prices i)) (sym e) one
]

finite_more : (row : List Float) (k : ℕ) → NoneFinite row k → is_number (at row k) ≡ false → NoneFinite row (k + 1)
finite_more row k some one h lt = elim (low_or_same h k lt) [
  | inl l ↦ some h l
  | inr e ↦ subst (λ (i : ℕ). is_number (at row i) ≡ false) (sym e) one
]

module _ (sense : Sense) (guess : Best) (row prices : List Float) where
  -- what was found stays found
  found_more : (k : ℕ) (best : Best) → IsFoundFrom sense guess row prices k best →
      (IsTrue (is_number (at row k)) → paid sense best.cost best.price ≤ℤ paid sense (at row k) (at prices k)) →
      IsFoundFrom sense guess row prices (k + 1) best
  found_more k best f one = record {
    here = f.here;
    least = below_more sense (paid sense best.cost best.price) row prices k f.least one;
    up_to = f.up_to;
  }

  -- the new one is the best
  new_best : (k : ℕ) (best : Best) → k < length row → IsBestFrom sense guess row prices k best →
      IsTrue (is_number (at row k)) → IsTrue (is_number (at prices k)) →
      (0 < best.object → paid sense (at row k) (at prices k) ≤ℤ paid sense best.cost best.price) →
      IsFoundFrom sense guess row prices (k + 1) (record { object = k + 1; cost = at row k; price = at prices k })
  new_best k best room is n p less =
      let e : k + 1 - 1 ≡ k = omega arith in record {
        here = record {
          first = omega arith;
          within = omega arith;
          cost = ap (at row) e;
          price = ap (at prices) e;
          finite = n;
          price_finite = p;
        };
        least = below_more sense (paid sense (at row k) (at prices k)) row prices k (λ h lt m.
            elim is [
              | inl a ↦ absurd (true≢false (sym m ∙ a.2 h lt))
              | inr f ↦ let l = less f.here.first in let g = f.least h lt m in omega (arith, ints)
            ]) (λ m. omega (arith, ints));
        up_to = λ some. elim is [
          | inl a ↦ let z = a.1 in absurd (omega arith)
          | inr f ↦ let l = less f.here.first in let g = f.up_to some in omega (arith, ints)
        ];
      }

  lesser_more : (k : ℕ) (best result : Best) → k < length row → IsBestFrom sense guess row prices k best →
      IsTrue (is_number (at prices k)) → IsLesser sense best (k + 1) (at row k) (at prices k) result →
      IsBestFrom sense guess row prices (k + 1) result
  lesser_more k best result room (inl a) p (inl l) = subst (IsBestFrom sense guess row prices (k + 1)) (sym l.0)
      (inl (a.0, a.1, finite_more row k a.2 l.1))
  lesser_more k best result room (inr f) p (inl l) = subst (IsBestFrom sense guess row prices (k + 1)) (sym l.0)
      (inr (found_more k best f (λ m. absurd (true≢false (sym m ∙ l.1)))))
  lesser_more k best result room (inl a) p (inr (inl l)) = let z = a.0 in let s = l.1 in absurd (omega arith)
  lesser_more k best result room (inr f) p (inr (inl l)) = subst (IsBestFrom sense guess row prices (k + 1)) (sym l.0)
      (inr (found_more k best f (λ m. l.2)))
  lesser_more k best result room is p (inr (inr l)) = subst (IsBestFrom sense guess row prices (k + 1)) (sym l.0)
      (inr (new_best k best room is l.1 p l.2))

  pub best_more : (k : ℕ) (best result : Best) → k < length row → IsBestFrom sense guess row prices k best →
      IsTrue (is_number (at prices k)) → IsStep sense guess best (k + 1) (at row k) (at prices k) result →
      IsBestFrom sense guess row prices (k + 1) result
  best_more k best result room (inl a) p (inl s) = let z = a.1 in let some = s.1.0 in absurd (omega arith)
  best_more k best result room (inr f) p (inl s) = subst (IsBestFrom sense guess row prices (k + 1)) (sym s.0)
      (inr (found_more k best f (λ m. let up = f.up_to s.1.0 in let lt = s.1.1 m in omega (arith, ints))))
  best_more k best result room is p (inr l) = lesser_more k best result room is p l

  -- pairs above the guess are passed
  pub passed_more : (k q : ℕ) (best : Best) → IsBestFrom sense guess row prices k best →
      ((h : ℕ) → k ≤ h → h < q → IsAboveGuess sense guess (at row h) (at prices h)) → IsBestFrom sense guess row prices q best
  passed_more k q best (inl a) above = inl (
    a.0,
    a.1,
    λ h lt. elim (cases_lt h k) [
      | inl below ↦ a.2 h below
      | inr from ↦ let z = a.1 in let some = (above h from lt).0 in absurd (omega arith)
    ],
  )
  passed_more k q best (inr f) above = inr (record {
    here = f.here;
    least = λ h lt m. elim (cases_lt h k) [
      | inl below ↦ f.least h below m
      | inr from ↦ let one = above h from lt in let up = f.up_to one.0 in let less = one.1 m in omega (arith, ints)
    ];
    up_to = f.up_to;
  })

  pub best_finite : (k : ℕ) (best : Best) → IsBestFrom sense guess row prices k best → 0 < best.object → IsTrue (is_number best.cost)
  best_finite k best (inl a) h = let z = a.0 in absurd (omega arith)
  best_finite k best (inr f) h = f.here.finite

  pub price_finite : (k : ℕ) (best : Best) → IsBestFrom sense guess row prices k best → 0 < best.object → IsTrue (is_number best.price)
  price_finite k best (inl a) h = let z = a.0 in absurd (omega arith)
  price_finite k best (inr f) h = f.here.price_finite

  pub guess_is : IsGuess row prices guess → IsBestFrom sense guess row prices 0 guess
  guess_is (inl a) = inl (a, a, λ h lt. absurd (omega arith))
  guess_is (inr here) = inr (record {
    here = here;
    least = λ h lt m. absurd (omega arith);
    up_to = λ some. omega (arith, ints);
  })

  pub best_of_all : (best : Best) → IsBestFrom sense guess row prices (length row) best → IsBestOf sense row prices (length row) best
  best_of_all best (inl a) = inl (a.0, a.2)
  best_of_all best (inr f) = inr (record {
    first = f.here.first;
    within = f.here.within;
    cost = f.here.cost;
    price = f.here.price;
    finite = f.here.finite;
    price_finite = f.here.price_finite;
    least = f.least;
  })

pub guess_finite : (row prices : List Float) (guess : Best) → IsGuess row prices guess → 0 < guess.object → IsTrue (is_number guess.cost)
guess_finite row prices guess (inl a) h = absurd (omega arith)
guess_finite row prices guess (inr here) h = here.finite

pub guess_price_finite : (row prices : List Float) (guess : Best) → IsGuess row prices guess → 0 < guess.object → IsTrue (is_number guess.price)
guess_price_finite row prices guess (inl a) h = absurd (omega arith)
guess_price_finite row prices guess (inr here) h = here.price_finite

-- the best of a whole row
pub whole_row : (sense : Sense) (row prices : List Float) (best : Best) → IsBestOf sense row prices (length row) best →
    IsLeastAt sense row prices best.object best.cost
whole_row sense row prices best (inl a) = inl a
whole_row sense row prices best (inr f) =
    inr (subst (λ (p : Float). IsFound sense row prices (length row) best.object best.cost p) (sym f.price) f)

-- a row whose least pair isn't below a number
pub none_by_least : (sense : Sense) (v : ℤ) (row prices : List Float) (j : ℕ) (c : Float) → IsLeastAt sense row prices j c →
    (0 < j → IsTrue (is_number c) → v ≤ℤ paid sense c (at prices (j - 1))) → NoneBelow sense v row prices (length row)
none_by_least sense v row prices j c (inl a) h k lt n = absurd (true≢false (sym n ∙ a.1 k lt))
none_by_least sense v row prices j c (inr f) h k lt n =
    let l = f.least k lt n in let b = h f.first f.finite in omega (arith, ints)

-- the rows of one more person
pub above_more : (sense : Sense) (costs prices of_costs of_prices : List Float) (k : ℕ) → AreAbove sense costs prices of_costs of_prices k →
    NoneBelow sense (number_at sense of_costs of_prices k) (row_part (length prices) k costs) prices (length prices) →
    AreAbove sense costs prices of_costs of_prices (k + 1)
above_more sense costs prices of_costs of_prices k some one i lt = elim (low_or_same i k lt) [
  | inl l ↦ some i l
  | inr e ↦ subst (λ (q : ℕ). NoneBelow sense (number_at sense of_costs of_prices q) (row_part (length prices) q costs) prices (length prices))
      (sym e) one
]

pub first_pair : (sense : Sense) (costs prices of_costs of_prices : List Float) (n k j : ℕ) → k < n →
    AreAbove sense costs prices of_costs of_prices k →
    IsFirstUnder sense (number_at sense of_costs of_prices k) (row_part (length prices) k costs) prices j →
    IsFirstBetter sense costs prices of_costs of_prices n (k + 1) j
first_pair sense costs prices of_costs of_prices n k j lt some one =
    let e : k ≡ k + 1 - 1 = omega arith in record {
      person = record { first = omega arith; last = omega arith };
      before = subst (AreAbove sense costs prices of_costs of_prices) e some;
      object = subst (λ (q : ℕ). IsFirstUnder sense (number_at sense of_costs of_prices q) (row_part (length prices) q costs) prices j) e one;
    }

-- a mark of an own pair that is not below its number and not above
pub own_at : (sense : Sense) (v : ℤ) (row prices : List Float) (j : ℕ) → IsNumber (length row) j →
    IsTrue (is_number (at row (j - 1))) → v ≤ℤ paid sense (at row (j - 1)) (at prices (j - 1)) →
    paid sense (at row (j - 1)) (at prices (j - 1)) ≤ℤ v → IsMarkAt sense v row prices j 1
own_at sense v row prices j number n low high = record {
  zero_or_one = inr refl;
  one = ((λ e. record { number = number; finite = n; same = omega (arith, ints) }), (λ o. refl));
}
