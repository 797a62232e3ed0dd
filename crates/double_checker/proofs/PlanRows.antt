-- Rows of doubles as rows of a problem: what the own objects and the others cost there.
use Rattle.std.proofs.Common.{◌≡◌, ℕ, ℤ, pos, neg_ℤ, ◌+ℤ◌, ◌≤ℤ◌, ◌<ℤ◌, ◌<◌, ◌+◌, ◌-◌, ◌*◌, zero}
use Rattle.std.proofs.Common.{suc, List, Option, Some, unwrap_or, length}
use Rattle.std.proofs.Common.{drop, true, false, IsTrue, arith, rules, refl, sym, ap, ◌∙◌}
use Rattle.std.proofs.Common.{add-one}
use Rattle.std.specs.Prelude.{unsigned_abs}
use Rattle.std.proofs.lemmas.Int.{ints}
use Rattle.std.proofs.lemmas.List.{get_or-map, get_or-take, get_or-drop}
use mathlib.Core.Bool.{true≢false}
use lib.Ieee.{Float, nan, inf, fin}
use Rattle.assign_core.specs.declared.sense.Sense.{Sense}
use Rattle.assign_core.specs.declared.sense.Sense.TheVariants.{Min, Max}
use Rattle.assign_core.specs.Numbered.{IsNumber}
use Rattle.assign_core.specs.Rows.{listed_in, listed_or_zero, row_of}
use Rattle.assign_core.specs.Assignment.{IsNoWorse}
use Rattle.assign_core.specs.Prices.{price_of}
use Rattle.assign_core.proofs.Listed.{object_within}
use Rattle.cost_lists.specs.Exact.{IsChoice, with_price}
use Rattle.double_costs.specs.Units.{is_number, units_of, size_in_units}
use Rattle.double_costs.specs.DoubleRows.{cost_in, row_of_doubles, rows_of_doubles}
use Rattle.double_costs.specs.Prices.{IsChoiceBy, IsWorseBy}
use Rattle.double_costs.proofs.DoublePairs.{place_listed, row_at, row_within}
use Rattle.double_checker.specs.Verdicts.{price_units}
use Rattle.double_checker.specs.inside.Sizes.{size_of}
use Rattle.double_checker.specs.inside.Pairs.{AreAbove, AreAtLeast, at, paid, row_part}

pub cost_number : (x : Float) (c : ℤ) → cost_in x ≡ Some c → IsTrue (is_number x) × (c ≡ units_of x)
cost_number nan c e = absurd (search rules)
cost_number (inf s) c e = absurd (search rules)
cost_number (fin s m e) c h = (refl, search rules)

pub number_cost : (x : Float) → IsTrue (is_number x) → cost_in x ≡ Some (units_of x)
number_cost nan h = absurd (true≢false (sym h))
number_cost (inf s) h = absurd (true≢false (sym h))
number_cost (fin s m e) h = refl

pub size_abs : (x : Float) → unsigned_abs (units_of x) ≡ size_of x
size_abs nan = refl
size_abs (inf s) = refl
size_abs (fin false m e) = refl
size_abs (fin true m e) = go (size_in_units m e)
  where
    go : (n : ℕ) → unsigned_abs (neg_ℤ (pos n)) ≡ n
    go zero = refl
    go (suc n) = refl

-- the price of object k + 1
pub price_at : (prices : List Float) (k : ℕ) → k < length prices → price_of (price_units prices) (k + 1) ≡ units_of
    (at prices k)
price_at prices k lt = rw add-one (get_or-map units_of prices k nan (pos 0) lt)

-- an entry of a row
pub record IsEntry (row prices : List Float) (k : ℕ) (c : ℤ) : Type 0 where
  pub place : ℕ
  pub number : k ≡ place + 1
  pub within : place < length row
  pub finite : IsTrue (is_number (at row place))
  pub cost : c ≡ units_of (at row place)
  pub price : price_of (price_units prices) k ≡ units_of (at prices place)

entry_within : (row : List Float) (k : ℕ) (c : ℤ) → listed_in (row_of_doubles 1 row) k ≡ Some c →
    IsNumber (length row) k
entry_within row k c e = object_within (length row) (row_of_doubles 1 row) k
    (row_within 1 (length row) row (omega arith) (omega arith)) (rw e (search rules))

pub entry_of : (row prices : List Float) (k : ℕ) (c : ℤ) → length row ≡ length prices →
    listed_in (row_of_doubles 1 row) k ≡ Some c → IsEntry row prices k c
entry_of row prices k c long e =
    let n = entry_within row k c e in
    let f = n.first in
    let l = n.last in
    let s : k ≡ 1 + (k - 1) = omega arith in
    let t : k ≡ k - 1 + 1 = omega arith in
    let x = cost_number (at row (k - 1)) c
    (sym (ap (listed_in (row_of_doubles 1 row)) s ∙ place_listed 1 (k - 1) row (omega arith)) ∙ e) in
    record {
      place = k - 1;
      number = t;
      within = omega arith;
      finite = x.0;
      cost = x.1;
      price = ap (price_of (price_units prices)) t ∙ price_at prices (k - 1) (omega arith);
    }

pub listed_at : (row : List Float) (j : ℕ) → j < length row → IsTrue (is_number (at row j)) →
    listed_in (row_of_doubles 1 row) (j + 1) ≡ Some (units_of (at row j))
listed_at row j lt n =
    let e : j + 1 ≡ 1 + j = omega arith in
    ap (listed_in (row_of_doubles 1 row)) e ∙ place_listed 1 j row lt ∙ number_cost (at row j) n

pub own_cost : (row : List Float) (j : ℕ) → j < length row → IsTrue (is_number (at row j)) →
    listed_or_zero (row_of_doubles 1 row) (j + 1) ≡ units_of (at row j)
own_cost row j lt n = ap (λ (o : Option ℤ). unwrap_or o (pos 0)) (listed_at row j lt n)

-- the order of sums with prices, either way
pub no_worse : (sense : Sense) (prices : List ℤ) (j k : ℕ) (a b : ℤ) (x p y q : Float) → a ≡ units_of x →
    price_of prices j ≡ units_of p → b ≡ units_of y → price_of prices k ≡ units_of q →
    paid sense x p ≤ℤ paid sense y q → IsNoWorse sense (with_price sense prices j a) (with_price sense prices k b)
no_worse Min prices j k a b x p y q ea ep eb eq h = omega (arith, ints)
no_worse Max prices j k a b x p y q ea ep eb eq h = omega (arith, ints)

pub paid_in_order : (sense : Sense) (prices : List ℤ) (j k : ℕ) (a b : ℤ) (x p y q : Float) → a ≡ units_of x →
    price_of prices j ≡ units_of p → b ≡ units_of y → price_of prices k ≡ units_of q →
    IsNoWorse sense (with_price sense prices j a) (with_price sense prices k b) → paid sense x p ≤ℤ paid sense y q
paid_in_order Min prices j k a b x p y q ea ep eb eq h = omega (arith, ints)
paid_in_order Max prices j k a b x p y q ea ep eb eq h = omega (arith, ints)

pub worse_by : (sense : Sense) (margin : ℤ) (prices : List ℤ) (j k : ℕ) (a b : ℤ) (x p y q : Float) →
    a ≡ units_of x → price_of prices j ≡ units_of p → b ≡ units_of y → price_of prices k ≡ units_of q →
    (paid sense x p +ℤ margin) <ℤ paid sense y q → IsWorseBy margin sense (with_price sense prices j a)
    (with_price sense prices k b)
worse_by Min margin prices j k a b x p y q ea ep eb eq h = omega (arith, ints)
worse_by Max margin prices j k a b x p y q ea ep eb eq h = omega (arith, ints)

pub row_choice : (sense : Sense) (row prices : List Float) (own : ℕ) → length row ≡ length prices → own < length row →
    IsTrue (is_number (at row own)) →
    AreAtLeast sense (paid sense (at row own) (at prices own)) row prices (length row) →
    IsChoice sense (price_units prices) (row_of_doubles 1 row) (own + 1)
row_choice sense row prices own long lt n h k c e =
    let f = entry_of row prices k c long e in
    no_worse sense (price_units prices) (own + 1) k (listed_or_zero (row_of_doubles 1 row) (own + 1)) c (at row own)
    (at prices own) (at row f.place) (at prices f.place)
    (own_cost row own lt n) (price_at prices own (omega arith)) f.cost f.price ((h f.place f.within).least f.finite)

pub row_choice_by : (sense : Sense) (margin : ℤ) (row prices : List Float) (own : ℕ) → length row ≡ length prices →
    own < length row → IsTrue (is_number (at row own)) →
    AreAbove sense (paid sense (at row own) (at prices own) +ℤ margin) row prices own (length row) →
    IsChoiceBy margin sense (price_units prices) (row_of_doubles 1 row) (own + 1)
row_choice_by sense margin row prices own long lt n h k c d e =
    let f = entry_of row prices k c long e in
    worse_by sense margin (price_units prices) (own + 1) k (listed_or_zero (row_of_doubles 1 row) (own + 1)) c
    (at row own) (at prices own) (at row f.place) (at prices f.place)
    (own_cost row own lt n) (price_at prices own (omega arith)) f.cost f.price
    ((h f.place f.within (λ g. d (f.number ∙ ap (λ (i : ℕ). i + 1) g))).above f.finite)

pub row_is : (n m i : ℕ) (costs : List Float) → i < n → row_of (rows_of_doubles m n costs) (i + 1) ≡ row_of_doubles 1
    (row_part m i costs)
row_is n m i costs lt = rw add-one (row_at m n i costs lt)

pub part_at : (m i j : ℕ) (costs : List Float) → j < m → at (row_part m i costs) j ≡ at costs (i * m + j)
part_at m i j costs lt = get_or-take m (drop (i * m) costs) j nan lt ∙ get_or-drop (i * m) costs j nan
