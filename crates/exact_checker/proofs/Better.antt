-- An object whose sum with its price is below a person's value is better for the person.
use Rattle.std.proofs.Common.{◌≡◌, ℕ, ℤ, pos, neg_ℤ, ◌+ℤ◌, ◌-ℤ◌, ◌≤ℤ◌, ◌<ℤ◌, ◌<◌, ◌-◌, List, [], Option, Some}
use Rattle.std.proofs.Common.{MatchOption, IsSome, unwrap_or, length, get_or, refl, arith, ap, sym, subst}
use Rattle.std.proofs.lemmas.Int.{ints, by_lt_z}
use Rattle.assign_core.specs.declared.sense.Sense.{Sense}
use Rattle.assign_core.specs.declared.sense.Sense.TheVariants.{Min, Max}
use Rattle.assign_core.specs.Numbered.{IsNumber, numbered}
use Rattle.assign_core.specs.Prices.{price_of}
use Rattle.assign_core.specs.Rows.{Listing, IsListed, listed_in, listed_or_zero, row_of}
use Rattle.assign_core.specs.Assignment.{AreListed, IsNoWorse}
use Rattle.assign_core.proofs.Listed.{listing_within}
use Rattle.assign_core.proofs.NumberedLemmas.{numbered-index}
use Rattle.assign_core.proofs.Zips.{pair_number, pairs_from}
use Rattle.dual_checker.specs.Faults.{IsFirst, own_object}
use Rattle.dual_checker.proofs.HallFirsts.{first_same}
use Rattle.cost_lists.specs.ListedCosts.{ListedCosts}
use Rattle.cost_lists.specs.Exact.{AreChoices, IsChoice, with_price}
use Rattle.cost_lists.specs.Own.{AreOwnOr, minimised}
use Rattle.cost_lists.proofs.ExactDuality.{some_cost}
use Rattle.cost_lists.proofs.Owns.{own_numbered_is}
use Rattle.exact_checker.specs.Faults.{IsBetter, IsBetterFor, IsShort, paid}
use Rattle.exact_checker.specs.Under.{HasUnder, IsUnder}

-- costs with prices, in their order, and turned
better_from : (sense : Sense) (prices : List ℤ) (k j : ℕ) (c d : ℤ) → (minimised sense c +ℤ price_of prices k) <ℤ (minimised sense d +ℤ price_of prices j) →
    IsBetter sense (with_price sense prices k c) (with_price sense prices j d)
better_from Min prices k j c d h = h
better_from Max prices k j c d h = omega (arith, ints)

better_to : (sense : Sense) (prices : List ℤ) (k j : ℕ) (c d : ℤ) → IsBetter sense (with_price sense prices k c) (with_price sense prices j d) →
    (minimised sense c +ℤ price_of prices k) <ℤ (minimised sense d +ℤ price_of prices j)
better_to Min prices k j c d h = h
better_to Max prices k j c d h = omega (arith, ints)

no_worse_unless : (sense : Sense) (prices : List ℤ) (k j : ℕ) (c d : ℤ) →
    (((minimised sense c +ℤ price_of prices k) <ℤ (minimised sense d +ℤ price_of prices j)) → ⊥) →
    IsNoWorse sense (with_price sense prices j d) (with_price sense prices k c)
no_worse_unless Min prices k j c d h = by_lt_z {P = (d +ℤ price_of prices j) ≤ℤ (c +ℤ price_of prices k)}
    (c +ℤ price_of prices k) (d +ℤ price_of prices j) (λ lt. absurd (h lt)) (λ le. le)
no_worse_unless Max prices k j c d h = by_lt_z {P = (c -ℤ price_of prices k) ≤ℤ (d -ℤ price_of prices j)}
    (neg_ℤ c +ℤ price_of prices k) (neg_ℤ d +ℤ price_of prices j) (λ lt. absurd (h lt)) (λ le. omega (arith, ints))

-- each person's value is the sum of its own turned cost and its object's price
abbrev pub AreValues : ListedCosts → List ℕ → List ℤ → List ℤ → Type 0
AreValues l xs prices values =
    (i : ℕ) → IsNumber (length l.rows) i →
    numbered values i (pos 0) ≡ minimised l.sense (listed_or_zero (row_of l.rows i) (own_object xs i)) +ℤ price_of prices (own_object xs i)

-- own costs to which the prices were added
pub values_are : {mark : ℤ} (l : ListedCosts) (xs : List ℕ) (prices own values : List ℤ) → AreOwnOr mark l.sense l.rows xs own →
    AreListed l.rows xs → length values ≡ length own → length xs ≡ length l.rows →
    ((i : ℕ) → i < length values → get_or values i (pos 0) ≡ get_or own i (pos 0) +ℤ price_of prices (get_or xs i 0)) → AreValues l xs prices values
values_are l xs prices own values are listed same long h i number =
    let first = number.first in
    let last = number.last in
    let owns = are.long in
    let at = numbered-index values i (pos 0) (pos 0) first (omega arith) in
    let there = numbered-index own i (pos 0) (pos 0) first (omega arith) in
    let object : own_object xs i ≡ get_or xs (i - 1) 0 = numbered-index xs i 0 0 first (omega arith) in
    let sum = h (i - 1) (omega arith) in
    let price = ap (price_of prices) object in
    let cost = own_numbered_is l.sense l.rows xs own are listed i number in
    omega (arith, ints)

module _ (l : ListedCosts) (xs : List ℕ) (prices values : List ℤ) (are : AreValues l xs prices values) where
  cost_of : (i k : ℕ) (c : ℤ) → listed_in (row_of l.rows i) k ≡ Some c → listed_or_zero (row_of l.rows i) k ≡ c
  cost_of i k c e = ap (λ o. unwrap_or o (pos 0)) e

  seen : (i k : ℕ) (c : ℤ) → listed_in (row_of l.rows i) k ≡ Some c → IsListed l.rows i k
  seen i k c e = subst IsSome (sym e) refl

  under_better : (i k : ℕ) → IsUnder l.sense l.rows prices values i k → IsBetterFor l xs prices i k
  under_better i k u =
      let number = listing_within l.rows i k (seen i k u.cost u.listed) in
      let value = are i number in
      let cost = cost_of i k u.cost u.listed in
      let turned = ap (minimised l.sense) cost in
      let under = u.under in
      record {
        listed = seen i k u.cost u.listed;
        better = better_from l.sense prices k (own_object xs i) (listed_or_zero (row_of l.rows i) k)
            (listed_or_zero (row_of l.rows i) (own_object xs i)) (omega (arith, ints));
      }

  better_under : (i k : ℕ) → IsBetterFor l xs prices i k → IsUnder l.sense l.rows prices values i k
  better_under i k b =
      let number = listing_within l.rows i k b.listed in
      let value = are i number in
      let less = better_to l.sense prices k (own_object xs i) (listed_or_zero (row_of l.rows i) k)
      (listed_or_zero (row_of l.rows i) (own_object xs i)) b.better in
      record {
        cost = listed_or_zero (row_of l.rows i) k;
        listed = some_cost (listed_in (row_of l.rows i) k) b.listed;
        under = omega (arith, ints);
      }

  pub short_first : (i : ℕ) → IsFirst (HasUnder l.sense l.rows prices values) (length l.rows) i → IsFirst (IsShort l xs prices) (length l.rows) i
  short_first i f =
      first_same (HasUnder l.sense l.rows prices values) (IsShort l xs prices) (length l.rows) (length l.rows) i
      (λ p. ((λ h. (h.0, under_better p h.0 h.1)), (λ h. (h.0, better_under p h.0 h.1)))) f.number.last f

  pub better_first : (i k : ℕ) → IsFirst (IsUnder l.sense l.rows prices values i) l.m k → IsFirst (IsBetterFor l xs prices i) l.m k
  better_first i k f =
      first_same (IsUnder l.sense l.rows prices values i) (IsBetterFor l xs prices i) l.m l.m k (λ q. (under_better i q, better_under i q)) f.number.last f

  pub choices_from : length xs ≡ length l.rows → ((i k : ℕ) → ¬ IsUnder l.sense l.rows prices values i k) → AreChoices l.sense prices l.rows xs
  choices_from long none = pairs_from (IsChoice l.sense prices) l.rows xs [] 0 (sym long) (λ i some last k c e.
      let value = are i (record { first = some; last = last }) in
      no_worse_unless l.sense prices k (own_object xs i) c (listed_or_zero (row_of l.rows i) (own_object xs i))
      (λ lt. none i k (record { cost = c; listed = e; under = omega (arith, ints, lt) })))

-- where each person has a choice, no object is better for a person
pub choice_unbeaten : (l : ListedCosts) (xs : List ℕ) (prices : List ℤ) (i k : ℕ) →
    AreChoices l.sense prices l.rows xs → IsNumber (length l.rows) i → IsBetterFor l xs prices i k → ⊥
choice_unbeaten l xs prices i k h number b =
    let choice = pair_number (IsChoice l.sense prices) l.rows xs i [] 0 h number.first number.last in
    never l.sense (paid l prices i k) (paid l prices i (own_object xs i)) b.better
    (choice k (listed_or_zero (row_of l.rows i) k) (some_cost (listed_in (row_of l.rows i) k) b.listed)) where
      never : (sense : Sense) (a d : ℤ) → IsBetter sense a d → IsNoWorse sense d a → ⊥
      never Min a d lt le = omega (arith, ints)
      never Max a d lt le = omega (arith, ints)

-- the lowest person that has an object under its value, and its lowest object of this kind, or none
abbrev pub IsFirstUnder : Sense → List Listing → ℕ → ℕ → List ℤ → List ℤ → Option (ℕ × ℕ) → Type 0
IsFirstUnder sense rows n m prices values f = MatchOption f ((i k : ℕ) → ¬ IsUnder sense rows prices values i k)
    (λ p. IsFirst (HasUnder sense rows prices values) n p.0 × IsFirst (IsUnder sense rows prices values p.0) m p.1)

pub under_shown : (s t : Sense) (rows others : List Listing) (n k m o : ℕ) (prices values : List ℤ)
    (f : Option (ℕ × ℕ)) → s ≡ t → rows ≡ others → n ≡ k → m ≡ o →
    IsFirstUnder s rows n m prices values f → IsFirstUnder t others k o prices values f
under_shown s t rows others n k m o prices values f same_sense same_rows same_n same_m h =
    subst (λ a. IsFirstUnder a others k o prices values f) same_sense
    (subst (λ r. IsFirstUnder s r k o prices values f) same_rows
    (subst (λ b. IsFirstUnder s rows b o prices values f) same_n (subst (λ d. IsFirstUnder s rows n d prices values f) same_m h)))
