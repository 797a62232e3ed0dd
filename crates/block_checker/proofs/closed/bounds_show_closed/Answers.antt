use Rattle.std.proofs.Common.{◌≡◌, ℕ, ℤ, List, [], Option, None, Some, IsSome, length, inl, inr, refl, arith, rules}
use Rattle.std.specs.List.{Contains}
use Rattle.std.proofs.lemmas.Int.{ints}
use Rattle.assign_core.specs.Numbered.{IsNumber}
use Rattle.assign_core.specs.Rows.{HasCosts, IsCost, listed_in, row_of}
use Rattle.assign_core.proofs.Listed.{entry_found}
use Rattle.assign_core.proofs.NumberedLemmas.{All-numbered}
use Rattle.dual_checker.specs.HallVerdicts.{HasNeighbours}
use Rattle.cost_lists.specs.Blocks.{IsBounded}
use Rattle.cost_lists.specs.ListedCosts.{ListedCosts, AreInLimits}
use Rattle.cost_lists.specs.Own.{minimised}
use Rattle.cost_lists.proofs.Owns.{turned_range}
use Rattle.exact_checker.specs.Under.{IsUnder}
use Rattle.block_checker.specs.Closed.{AskOutside}
use Rattle.block_checker.proofs.closed.bounds_show_closed.Goals as goal

module _ (l : ListedCosts) (persons objects : List ℕ) (prices numbers : List ℤ) (limits : AreInLimits l)
    (ask : AskOutside (length l.rows) persons objects prices numbers) where
  cost_in : (i j : ℕ) (c : ℤ) → IsNumber (length l.rows) i → listed_in (row_of l.rows i) j ≡ Some c → IsCost (minimised l.sense c)
  cost_in i j c number is = turned_range l.sense c (entry_found (λ f. IsCost f.1) (row_of l.rows i) j c
      (All-numbered HasCosts l.rows i [] limits.costs number.first number.last) is)

  named_closed : IsBounded l.sense l.rows prices numbers → (i j : ℕ) → Contains persons i → (o : Option ℤ) →
      listed_in (row_of l.rows i) j ≡ o → IsSome o → Contains objects j
  named_closed bounded i j named None is some = absurd (search rules)
  named_closed bounded i j named (Some c) is some = elim (ask.outside j) [
    | inl inside ↦ inside
    | inr free ↦
        let number = ask.named i named in
        let above = number.1 in
        let low = bounded i j c is in
        let range = cost_in i j c number.0 is in
        let most = range.greatest in
        absurd (omega (arith, ints))
  ]

  closed : IsBounded l.sense l.rows prices numbers → HasNeighbours l.rows persons (Contains objects)
  closed bounded j n = named_closed bounded n.0 j n.1 (listed_in (row_of l.rows n.0) j) refl n.2

  outside : (i j : ℕ) → IsNumber (length l.rows) i → IsUnder l.sense l.rows prices numbers i j → Contains persons i × ¬ Contains objects j
  outside i j number u =
      let range = cost_in i j u.cost number u.listed in
      let least = range.least in
      let under = u.under in
      elim (ask.others i number) [
        | inl named ↦
            let above = (ask.named i named).1 in
            (named, (λ inside. let lift = ask.inside j inside in absurd (omega (arith, ints))))
        | inr low ↦ elim (ask.outside j) [
          | inl inside ↦ let lift = ask.inside j inside in absurd (omega (arith, ints))
          | inr free ↦ absurd (omega (arith, ints))
        ]
      ]

pub returns-clause-closed : goal.returns-clause-closed
returns-clause-closed c = closed

pub returns-clause-outside : goal.returns-clause-outside
returns-clause-outside c = outside
