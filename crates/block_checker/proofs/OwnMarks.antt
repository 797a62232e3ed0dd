-- What marks of own costs say of the lists.
use Rattle.std.proofs.Common.{◌≡◌, ◌↔◌, ℕ, ℤ, pos, ◌+ℤ◌, ◌-◌, List, [], Option, None, Some, unwrap_or, length, get_or, ◌⊎◌, inl, inr, refl, arith, ap, sym, subst, ◌∙◌}
use Rattle.std.specs.List.{All}
use Rattle.std.proofs.lemmas.Int.{ints}
use Rattle.assign_core.specs.declared.sense.Sense.{Sense}
use Rattle.assign_core.specs.Numbered.{IsNumber, numbered}
use Rattle.assign_core.specs.Prices.{price_of}
use Rattle.assign_core.specs.Rows.{HasCosts, IsCost, listed_in, listed_or_zero, row_of}
use Rattle.assign_core.proofs.NumberedLemmas.{All-from_numbers, All-numbered, numbered-index}
use Rattle.assign_core.proofs.RowLemmas.{IsCost-listed}
use Rattle.cost_lists.specs.ListedCosts.{ListedCosts}
use Rattle.cost_lists.specs.Own.{AreOwnCosts, minimised, turned_or_unlisted}
use Rattle.cost_lists.proofs.Owns.{turned_range}
use Rattle.block_checker.specs.Sums.{AreMarks}
use Rattle.block_checker.specs.inside.Marks.{AreMarksOf, IsMarkOf, IsOwnCost, IsOwnSum}

some_same : {a b : ℤ} → Some a ≡ Some b → a ≡ b
some_same e = cc

own_cost : (sense : Sense) (o : Option ℤ) → IsCost (unwrap_or o (pos 0)) → IsOwnCost (turned_or_unlisted sense o)
own_cost sense None h = inl refl
own_cost sense (Some c) h = inr (turned_range sense c h)

-- a sum of the own cost, as one of what the row lists
shown_is : (sense : Sense) (o : Option ℤ) (own price number : ℤ) → own ≡ turned_or_unlisted sense o → IsCost (unwrap_or o (pos 0)) →
    IsOwnSum own price number ↔ ((c : ℤ) × (o ≡ Some c) × ((minimised sense c +ℤ price) ≡ number))
shown_is sense None own price number e h = ((λ s. absurd (s.0 e)), (λ s. absurd (let none = s.1 in cc)))
shown_is sense (Some d) own price number e h = (
  (λ s. (d, refl, let sum = s.1 in omega (arith, ints))),
  (λ s.
      let same = ap (minimised sense) (some_same s.1) in
      let range = turned_range sense d h in
      let least = range.least in
      let most = range.greatest in
      let sum = s.2 in
      ((λ mark. absurd (omega (arith, ints))), omega (arith, ints))),
)

module _ (l : ListedCosts) (xs : List ℕ) (prices numbers own : List ℤ) (are : AreOwnCosts l.sense l.rows xs own) (costs : All HasCosts l.rows) where
  cost_in : (i : ℕ) → IsNumber (length l.rows) i → IsCost (listed_or_zero (row_of l.rows i) (numbered xs i 0))
  cost_in i number = IsCost-listed (row_of l.rows i) (numbered xs i 0) (All-numbered HasCosts l.rows i [] costs number.first number.last)

  pub own_costs_in : All IsOwnCost own
  own_costs_in = All-from_numbers IsOwnCost own (pos 0) (λ i first last.
      let long = are.long in
      let number : IsNumber (length l.rows) i = record { first = first; last = omega arith } in
      subst IsOwnCost (sym (are.each i number)) (own_cost l.sense (listed_in (row_of l.rows i) (numbered xs i 0)) (cost_in i number)))

  pub marks_are : (marks : List ℕ) → length marks ≡ length l.rows → length xs ≡ length l.rows → length numbers ≡ length l.rows →
      AreMarksOf own xs numbers prices (length marks) marks → AreMarks l xs prices numbers marks
  marks_are marks long few same h = record {
    long = long;
    zero_or_one = λ i number. subst (λ k. (k ≡ 0) ⊎ (k ≡ 1)) (sym (mark_at i number)) (at i number).zero_or_one;
    each = λ i number.
        let shown = shown_is l.sense (listed_in (row_of l.rows i) (numbered xs i 0)) (numbered own i (pos 0)) (price_of prices (numbered xs i 0))
        (numbered numbers i (pos 0)) (are.each i number) (cost_in i number) in
        let own_at = numbered-index own i (pos 0) (pos 0) number.first (let last = number.last in let a = are.long in omega arith) in
        let object_at = numbered-index xs i 0 0 number.first (let last = number.last in omega arith) in
        let number_at = numbered-index numbers i (pos 0) (pos 0) number.first (let last = number.last in omega arith) in
        let one : (get_or marks (i - 1) 0 ≡ 1) ↔ IsOwnSum (numbered own i (pos 0)) (price_of prices (numbered xs i 0)) (numbered numbers i (pos 0)) =
        subst (λ z. (get_or marks (i - 1) 0 ≡ 1) ↔ IsOwnSum z (price_of prices (numbered xs i 0)) (numbered numbers i (pos 0))) (sym own_at)
        (subst (λ x. (get_or marks (i - 1) 0 ≡ 1) ↔ IsOwnSum (get_or own (i - 1) (pos 0)) (price_of prices x) (numbered numbers i (pos 0))) (sym object_at)
        (subst (λ z. (get_or marks (i - 1) 0 ≡ 1) ↔ IsOwnSum (get_or own (i - 1) (pos 0)) (price_of prices (get_or xs (i - 1) 0)) z) (sym number_at) (at i number).one)) in
        ((λ e. shown.0 (one.0 (sym (mark_at i number) ∙ e))), (λ s. mark_at i number ∙ one.1 (shown.1 s)));
  } where
    mark_at : (i : ℕ) → IsNumber (length l.rows) i → numbered marks i 0 ≡ get_or marks (i - 1) 0
    mark_at i number = numbered-index marks i 0 0 number.first (let last = number.last in omega arith)

    at : (i : ℕ) → IsNumber (length l.rows) i → IsMarkOf (get_or own (i - 1) (pos 0)) (price_of prices (get_or xs (i - 1) 0)) (get_or numbers (i - 1) (pos 0)) (get_or marks (i - 1) 0)
    at i number = h (i - 1) (let first = number.first in let last = number.last in omega arith)
