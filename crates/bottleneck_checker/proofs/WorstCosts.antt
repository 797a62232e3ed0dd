-- The worst own cost, as the greatest turned one.
use Rattle.std.proofs.Common.{◌≡◌, ℕ, ℤ, pos, ◌≤ℤ◌, ◌<◌, ◌-◌, suc, List, length, get_or, arith, ap, sym, subst, ◌∙◌}
use Rattle.std.proofs.lemmas.Int.{ints}
use Rattle.assign_core.specs.declared.sense.Sense.{Sense}
use Rattle.assign_core.specs.declared.sense.Sense.TheVariants.{Min, Max}
use Rattle.assign_core.specs.Numbered.{IsNumber}
use Rattle.assign_core.specs.Rows.{IsCost}
use Rattle.assign_core.specs.Assignment.{IsAssignment, IsNoWorse}
use Rattle.assign_core.proofs.NumberedLemmas.{numbered-index}
use Rattle.assign_core.proofs.Orders.{le_antisymmetric}
use Rattle.cost_lists.specs.ListedCosts.{AreInLimits, ListedCosts}
use Rattle.cost_lists.specs.Own.{AreOwnCosts, minimised}
use Rattle.cost_lists.proofs.Owns.{own_numbered_is, own_range, turned_order}
use Rattle.bottleneck_checker.specs.Bottleneck.{IsWorst, own_cost}

turned_twice : (sense : Sense) (a b : ℤ) → minimised sense a ≡ b → a ≡ minimised sense b
turned_twice Min a b e = e
turned_twice Max a b e = omega (arith, ints)

order_from : (sense : Sense) (a w : ℤ) → minimised sense a ≤ℤ w → IsNoWorse sense a (minimised sense w)
order_from Min a w h = h
order_from Max a w h = omega (arith, ints)

module _ (l : ListedCosts) (xs : List ℕ) (own : List ℤ) (w : ℤ) (limits : AreInLimits l) (a : IsAssignment l.rows xs)
    (are : AreOwnCosts l.sense l.rows xs own) (p : ℕ) (within : p < length own) (is : get_or own p (pos 0) ≡ w)
    (most : (k : ℕ) → k < length own → get_or own k (pos 0) ≤ℤ w) where
  pub worst_in : IsCost w
  worst_in = subst IsCost is (own_range l.sense l.rows xs own are a.listed limits.costs p (pos 0) within)

  own_is : (i : ℕ) → IsNumber (length l.rows) i → get_or own (i - 1) (pos 0) ≡ minimised l.sense (own_cost l.rows xs i)
  own_is i number =
      let last = number.last in
      let long = are.long in
      sym (numbered-index own i (pos 0) (pos 0) number.first (omega arith)) ∙ own_numbered_is l.sense l.rows xs own are a.listed i number

  low : (i : ℕ) → IsNumber (length l.rows) i → minimised l.sense (own_cost l.rows xs i) ≤ℤ w
  low i number =
      let some = number.first in
      let last = number.last in
      let long = are.long in
      let e = own_is i number in
      let h = most (i - 1) (omega arith) in
      omega (arith, ints)

  here : IsNumber (length l.rows) (suc p)
  here = let long = are.long in record { first = omega arith; last = omega arith }

  there : minimised l.sense (own_cost l.rows xs (suc p)) ≡ w
  there = sym (own_is (suc p) here) ∙ ap (λ k. get_or own k (pos 0)) (omega arith) ∙ is

  pub worst_is : IsWorst l.sense l.rows xs (minimised l.sense w)
  worst_is = record {
    person = suc p;
    number = here;
    is = turned_twice l.sense (own_cost l.rows xs (suc p)) w there;
    none_worse = λ i number. order_from l.sense (own_cost l.rows xs i) w (low i number);
  }

  -- there is no other
  pub worst_alone : (b : ℤ) → IsWorst l.sense l.rows xs b → b ≡ minimised l.sense w
  worst_alone b h =
      let e = ap (minimised l.sense) h.is in
      let under = low h.person h.number in
      let over = turned_order l.sense (own_cost l.rows xs (suc p)) b (h.none_worse (suc p) here) in
      let at = there in
      turned_twice l.sense b w (le_antisymmetric (minimised l.sense b) w (omega (arith, ints)) (omega (arith, ints)))
