-- Rows seen a pair at a time.
use Rattle.std.proofs.Common.{◌≡◌, ◌≢◌, ℕ, ℤ, ◌+ℤ◌, ◌≤ℤ◌, ◌+◌, List, length, Bool, true}
use Rattle.std.proofs.Common.{Option, None, Some, inl, inr, IsTrue, arith, sym, ap, ◌∙◌, subst}
use Rattle.std.specs.Prelude.{MatchOption}
use Rattle.std.proofs.lemmas.Bool.Decides.{eqb_tells}
use Rattle.std.proofs.lemmas.Int.{ints}
use lib.Ieee.{Float}
use Rattle.assign_core.specs.declared.sense.Sense.{Sense}
use Rattle.assign_core.proofs.NumberedLemmas.{low_or_same}
use Rattle.double_costs.specs.Units.{is_number, units_of}
use Rattle.double_checker.specs.inside.Pairs.{AreAbove, AreAtLeast, HasOpen, IsAbove, IsAtLeast, at, paid, row_part}
use Rattle.double_checker.specs.inside.Pairs.{turned}
use Rattle.double_checker.specs.inside.Plans.{AreRowsSeen, IsBase, IsRowSeen, own_place}
use Rattle.double_checker.proofs.Finite.{number_is_cost, units_turned}

pub at_least_own : (sense : Sense) (cost price : Float) → IsTrue (is_number cost) →
    IsAtLeast sense (paid sense cost price) cost price
at_least_own sense cost price n = record { cost_is = number_is_cost sense cost n; least = λ _. omega (arith, ints) }

pub at_least_above : (sense : Sense) (b v : ℤ) (cost price : Float) → b ≤ℤ v → IsAbove sense v cost price →
    IsAtLeast sense b cost price
at_least_above sense b v cost price h a = record {
  cost_is = a.cost_is;
  least = λ n. let l = a.above n in
      omega (arith, ints);
}

pub above_less : (sense : Sense) (b v : ℤ) (cost price : Float) → b ≤ℤ v → IsAbove sense v cost price →
    IsAbove sense b cost price
above_less sense b v cost price h a = record {
  cost_is = a.cost_is;
  above = λ n. let l = a.above n in
      omega (arith, ints);
}

pub least_more : (sense : Sense) (b : ℤ) (row prices : List Float) (k : ℕ) → AreAtLeast sense b row prices k →
    IsAtLeast sense b (at row k) (at prices k) → AreAtLeast sense b row prices (k + 1)
least_more sense b row prices k h one j lt = elim (low_or_same j k lt) [
  | inl l ↦ h j l
  | inr e ↦ subst (λ (i : ℕ). IsAtLeast sense b (at row i) (at prices i)) (sym e) one
]

pub above_more : (sense : Sense) (b : ℤ) (row prices : List Float) (own k : ℕ) → AreAbove sense b row prices own k →
    (k ≢ own → IsAbove sense b (at row k) (at prices k)) → AreAbove sense b row prices own (k + 1)
above_more sense b row prices own k h one j lt n = elim (low_or_same j k lt) [
  | inl l ↦ h j l n
  | inr e ↦ subst (λ (i : ℕ). IsAbove sense b (at row i) (at prices i)) (sym e) (one (λ g. n (e ∙ g)))
]

-- a row whose other costs are above a bound
pub least_by_above : (sense : Sense) (v : ℤ) (row prices : List Float) (own : ℕ) → IsTrue (is_number (at row own)) →
    paid sense (at row own) (at prices own) ≤ℤ v → (k : ℕ) → AreAbove sense v row prices own k →
    AreAtLeast sense (paid sense (at row own) (at prices own)) row prices k
least_by_above sense v row prices own n h k above j lt = elim (eqb_tells j own) [
  | inl e ↦ subst (λ (i : ℕ). IsAtLeast sense (paid sense (at row own) (at prices own)) (at row i) (at prices i))
      (sym e.1) (at_least_own sense (at row own) (at prices own) n)
  | inr e ↦ at_least_above sense (paid sense (at row own) (at prices own)) v (at row j) (at prices j) h
      (above j lt e.1)
]

pub enough_base : (sense : Sense) (cost price base margin t : Float) → t ≡ turned sense cost →
    IsBase t price base margin → paid sense cost price ≤ℤ (units_of base +ℤ units_of margin)
enough_base sense cost price base margin t e b =
    let u = ap units_of e ∙ units_turned sense cost in
    let l = b.below in
    let m = b.no_less in
    omega (arith, ints)

pub enough_own : (sense : Sense) (cost price t : Float) → t ≡ turned sense cost →
    paid sense cost price ≤ℤ (units_of t +ℤ units_of price)
enough_own sense cost price t e = let u = ap units_of e ∙ units_turned sense cost in omega (arith, ints)

pub row_by_base : (sense : Sense) (row prices : List Float) (own : ℕ) (base margin t : Float) (r : Option Bool) →
    t ≡ turned sense (at row own) → IsBase t (at prices own) base margin
    → MatchOption r (HasOpen sense row prices own) (λ b. AreAtLeast sense (paid sense (at row own) (at prices own))
    row prices (length row) × (b ≡ true → AreAbove sense (units_of base +ℤ units_of margin) row prices own
    (length row)))
    → MatchOption r (HasOpen sense row prices own) (λ b. IsRowSeen sense (units_of margin) row prices own b)
row_by_base sense row prices own base margin t None e b h = h
row_by_base sense row prices own base margin t (Some y) e b h = record {
  least = h.0;
  above = λ g j lt n. above_less sense (paid sense (at row own) (at prices own) +ℤ units_of margin)
      (units_of base +ℤ units_of margin) (at row j) (at prices j)
      (let u = ap units_of e ∙ units_turned sense (at row own) in let l = b.below in omega (arith, ints))
      (h.1 g j lt n);
}

pub less_said : (sense : Sense) (margin : ℤ) (row prices : List Float) (own : ℕ) (a b : Bool) →
    (b ≡ true → a ≡ true) → IsRowSeen sense margin row prices own a → IsRowSeen sense margin row prices own b
less_said sense margin row prices own a b h s = record { least = s.least; above = λ e. s.above (h e) }

pub rows_more : (sense : Sense) (margin : ℤ) (m : ℕ) (costs : List Float) (xs : List ℕ) (prices : List Float)
    (a b r : Bool) (k : ℕ) → (r ≡ true → (a ≡ true) × (b ≡ true))
    → AreRowsSeen sense margin m costs xs prices a k → IsRowSeen sense margin (row_part m k costs) prices
    (own_place xs k) b → AreRowsSeen sense margin m costs xs prices r (k + 1)
rows_more sense margin m costs xs prices a b r k h some one i lt = elim (low_or_same i k lt) [
  | inl l ↦ less_said sense margin (row_part m i costs) prices (own_place xs i) a r (λ e. (h e).0) (some i l)
  | inr e ↦ subst (λ (q : ℕ). IsRowSeen sense margin (row_part m q costs) prices (own_place xs q) r) (sym e)
      (less_said sense margin (row_part m k costs) prices (own_place xs k) b r (λ g. (h g).1) one)
]
