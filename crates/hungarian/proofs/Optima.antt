-- A plan in which each person has an object is an assignment with exact prices.
use Rattle.std.proofs.Common.{◌≡◌, ◌≢◌, ℕ, zero, suc, ℤ, pos, ◌+◌, ◌+ℤ◌, ◌≤ℤ◌, ◌<◌, ◌≤◌, List, [], length, get_or, drop, nat_eq, false, IsSome, ap, arith, refl, sym, subst, ◌∙◌, inl, inr}
use Rattle.std.specs.List.{Contains, IsDistinct}
use Rattle.std.proofs.lemmas.Int.{ints}
use Rattle.std.proofs.lemmas.Bool.Decides.{eqb_tells}
use Rattle.std.proofs.lemmas.List.{get_or-drop, get_or_default, length-drop}
use Rattle.std.proofs.lemmas.List.Elements.{Contains-get_or}
use Rattle.std.proofs.lemmas.Map.Keys.{IsDistinct-from_apart}
use Rattle.assign_core.specs.declared.sense.Sense.{Sense}
use Rattle.assign_core.specs.declared.sense.Sense.TheVariants.{Min, Max}
use Rattle.assign_core.specs.Numbered.{IsNumber, numbered}
use Rattle.assign_core.specs.Rows.{Listing, IsListed, listed_in, listed_or_zero, row_of}
use Rattle.assign_core.specs.Assignment.{AreListed, IsNoWorse}
use Rattle.assign_core.specs.Prices.{price_of}
use Rattle.assign_core.proofs.NumberedLemmas.{All-from_numbers}
use Rattle.assign_core.proofs.Zips.{pairs_from}
use Rattle.cost_lists.specs.ListedCosts.{ListedCosts, AreInLimits}
use Rattle.cost_lists.specs.Exact.{IsPriceInLimits, with_price, IsChoice, AreChoices, AreFree, IsOptimum}
use Rattle.cost_lists.specs.Own.{minimised, turned_or_unlisted}
use Rattle.hungarian.specs.inside.Plans.{at, int_at, cost_at, IsChosen, IsPlan}
use Rattle.hungarian.proofs.Costs.{listed_from_cost, cost_from_listed, cost_number, turned_is}
use Rattle.hungarian.proofs.Growing.{none_or_some}

-- the elements after the first, by number
pub numbered_rest : {A : Type 0} (xs : List A) (j : ℕ) (d : A) → 0 < j → numbered (drop 1 xs) j d ≡ get_or xs j d
numbered_rest xs zero d some = absurd (omega arith)
numbered_rest xs (suc k) d some = get_or-drop 1 xs k d
    ∙ ap (λ q. get_or xs q d) (let e : 1 + k ≡ suc k = omega arith in e)

no_worse : (sense : Sense) (c own p q : ℤ) → (minimised sense own +ℤ p) ≤ℤ (minimised sense c +ℤ q) →
    (prices : List ℤ) (j k : ℕ) →
    price_of prices j ≡ p → price_of prices k ≡ q →
    IsNoWorse sense (with_price sense prices j own) (with_price sense prices k c)
no_worse Min c own p q h prices j k a b = omega (arith, ints)
no_worse Max c own p q h prices j k a b = omega (arith, ints)

module _ (l : ListedCosts) (prices : List ℤ) (owners all : List ℕ) (lim : AreInLimits l)
    (plan : IsPlan (cost_at l) (length l.rows) l.m (int_at prices) (at owners) (at all))
    (long : length all ≡ length l.rows + 1) (prices_long : length prices ≡ l.m + 1)
    (assigned : (i : ℕ) → 0 < i → i ≤ length l.rows → 0 < at all i) where
  rest_long : length l.rows ≡ length (drop 1 all)
  rest_long = let a = length-drop 1 all in omega arith

  chosen : (i : ℕ) → 0 < i → i ≤ length l.rows → IsChosen (cost_at l) (int_at prices) i (at all i)
  chosen i some last = plan.chosen i (assigned i some last)

  listed : (i : ℕ) → 0 < i → i ≤ length l.rows → IsListed l.rows i (at all i)
  listed i some last = listed_from_cost l i (at all i) (chosen i some last).listed

  all_listed : AreListed l.rows (drop 1 all)
  all_listed = pairs_from (λ (row : Listing) (j : ℕ). IsSome (listed_in row j)) l.rows (drop 1 all) [] 0 rest_long
      (λ i some last. subst (IsListed l.rows i) (sym (numbered_rest all i 0 some)) (listed i some last))

  price_is : (k : ℕ) → IsNumber l.m k → price_of (drop 1 prices) k ≡ int_at prices k
  price_is k number = numbered_rest prices k (pos 0) number.first

  choice : (i : ℕ) → 0 < i → i ≤ length l.rows → IsChoice l.sense (drop 1 prices) (row_of l.rows i) (at all i)
  choice i some last k c h =
      let own = chosen i some last in
      let s = listed i some last in
      let other : IsListed l.rows i k = subst IsSome (sym h) refl in
      let less = own.least k (cost_from_listed l i k lim other) in
      let number = cost_number l i (at all i) lim own.listed in
      let number2 = cost_number l i k lim (cost_from_listed l i k lim other) in
      let one : cost_at l i (at all i) ≡ minimised l.sense
      (listed_or_zero (row_of l.rows i) (at all i)) = turned_is l.sense
      (listed_in (row_of l.rows i) (at all i)) s in
      let two : cost_at l i k ≡ minimised l.sense c = ap (turned_or_unlisted l.sense) h in
      no_worse l.sense c (listed_or_zero (row_of l.rows i) (at all i)) (int_at prices (at all i)) (int_at prices k)
      (subst (λ z. (z +ℤ int_at prices (at all i)) ≤ℤ (minimised l.sense c +ℤ int_at prices k)) one
      (subst (λ z. (cost_at l i (at all i) +ℤ int_at prices (at all i)) ≤ℤ (z +ℤ int_at prices k)) two less))
      (drop 1 prices) (at all i) k (price_is (at all i) number) (price_is k number2)

  all_choices : AreChoices l.sense (drop 1 prices) l.rows (drop 1 all)
  all_choices = pairs_from (IsChoice l.sense (drop 1 prices)) l.rows (drop 1 all) [] 0 rest_long
      (λ i some last. subst (IsChoice l.sense (drop 1 prices) (row_of l.rows i)) (sym (numbered_rest all i 0 some))
      (choice i some last))

  differ : (a b : ℕ) → a ≢ b → nat_eq a b ≡ false
  differ a b ne = elim (eqb_tells a b) [ inl e ↦ absurd (ne e.1) | inr e ↦ e.0 ]

  at_rest : (k d : ℕ) → k < length (drop 1 all) → get_or (drop 1 all) k d ≡ at all (k + 1)
  at_rest k d lt =
      let a = rest_long in
      let in_all : 1 + k < length all = let e = long in omega arith in
      get_or-drop 1 all k d ∙ get_or_default all (1 + k) d 0 in_all
      ∙ ap (λ q. get_or all q 0) (let e : 1 + k ≡ k + 1 = omega arith in e)

  distinct : IsDistinct nat_eq (drop 1 all)
  distinct = IsDistinct-from_apart nat_eq (drop 1 all) (λ i k z lt last.
      let a = rest_long in
      let one = assigned (i + 1) (omega arith) (omega arith) in
      let two = assigned (k + 1) (omega arith) (omega arith) in
      rw (at_rest i z (omega arith), at_rest k z last) (differ (at all (i + 1)) (at all (k + 1)) (λ e.
      let q : i + 1 ≡ k + 1 = sym (plan.matched.owning (i + 1) one).back ∙ ap (at owners) e
      ∙ (plan.matched.owning (k + 1) two).back in omega arith)))

  has : (j : ℕ) (i : ℕ) → 0 < i → i ≤ length l.rows → at all i ≡ j → Contains (drop 1 all) j
  has j zero some last is = absurd (omega arith)
  has j (suc k) some last is =
      let a = rest_long in
      let b = Contains-get_or (drop 1 all) k 0 (omega arith) in
      subst (Contains (drop 1 all)) (numbered_rest all (suc k) 0 some ∙ is) b

  free : AreFree l.m (drop 1 prices) (drop 1 all)
  free j number = elim (none_or_some (at owners j)) [
    | inl none ↦ inr (price_is j number ∙ plan.free j none)
    | inr some ↦
        let owner = plan.matched.owned j some in
        inl (has j (at owners j) some owner.last owner.back)
  ]

  pub optimum_is : IsOptimum l (drop 1 all) (drop 1 prices)
  optimum_is = record {
    assigned = record { listed = all_listed; apart = distinct };
    priced = let a = length-drop 1 prices in omega arith;
    in_range = All-from_numbers IsPriceInLimits (drop 1 prices) (pos 0)
        (λ j some last. subst IsPriceInLimits (sym (numbered_rest prices j (pos 0) some)) (plan.priced j));
    choices = all_choices;
    free = free;
  }
