-- Unlisted objects, by their marks among own costs.
use Rattle.std.proofs.Common.{◌≡◌, ◌≢◌, ℕ, ℤ, pos, neg_ℤ, ◌<ℤ◌, ◌<◌, ◌≤◌, ◌+◌, List, [], Option, None, Some, IsSome, length, refl, rules, arith, sym, ◌∙◌}
use Rattle.std.proofs.lemmas.Int.{ints}
use Rattle.std.specs.List.{All}
use Rattle.assign_core.specs.declared.sense.Sense.{Sense}
use Rattle.assign_core.specs.declared.sense.Sense.TheVariants.{Min, Max}
use Rattle.assign_core.specs.Numbered.{IsNumber, numbered}
use Rattle.assign_core.specs.Rows.{Listing, HasCosts, IsCost, IsListed, listed_in, row_of}
use Rattle.assign_core.specs.Assignment.{AreListed}
use Rattle.assign_core.proofs.Listed.{entry_found}
use Rattle.assign_core.proofs.NumberedLemmas.{All-numbered}
use Rattle.assign_core.proofs.Zips.{pairs_from}
use Rattle.dual_checker.specs.Faults.{IsFirst, IsUnlisted, own_object}
use Rattle.dual_checker.proofs.Firsts.{first_at}
use Rattle.cost_lists.specs.declared.numbers.TheConstants.{UNLISTED}
use Rattle.cost_lists.specs.Own.{AreOwnOr, minimised, turned_or}

unmarked : (mark : ℤ) (sense : Sense) (o : Option ℤ) → turned_or mark sense o ≢ mark → IsSome o
unmarked mark sense None h = absurd (h refl)
unmarked mark sense (Some c) h = refl

marked : (mark : ℤ) (sense : Sense) (o : Option ℤ) → ((c : ℤ) → o ≡ Some c → minimised sense c <ℤ mark) → turned_or mark sense o ≡ mark → ¬ IsSome o
marked mark sense None below e s = absurd (search rules)
marked mark sense (Some c) below e s = let less = below c refl in omega (arith, ints)

-- the costs that a row lists are below the mark when they are turned
abbrev pub AreBelow : ℤ → Sense → List Listing → Type 0
AreBelow mark sense rows = (i j : ℕ) (c : ℤ) → IsNumber (length rows) i → listed_in (row_of rows i) j ≡ Some c → minimised sense c <ℤ mark

pub below_mark : (mark : ℤ) (IsIn : ℤ → Type 0) (sense : Sense) (rows : List Listing) → ((c : ℤ) → IsIn c → (c <ℤ mark) × (neg_ℤ c <ℤ mark)) →
    All (All (λ e. IsIn e.1)) rows → AreBelow mark sense rows
below_mark mark IsIn sense rows low each i j c number e =
    turned sense (low c (entry_found (λ f. IsIn f.1) (row_of rows i) j c (All-numbered (All (λ f. IsIn f.1)) rows i [] each number.first number.last) e)) where
      turned : (sense : Sense) → (c <ℤ mark) × (neg_ℤ c <ℤ mark) → minimised sense c <ℤ mark
      turned Min h = h.0
      turned Max h = h.1

pub costs_below_mark : (sense : Sense) (rows : List Listing) → All HasCosts rows → AreBelow UNLISTED sense rows
costs_below_mark sense rows each = below_mark UNLISTED IsCost sense rows
    (λ c h. let low = h.least in let high = h.greatest in (omega (arith, ints), omega (arith, ints))) each

module _ (mark : ℤ) (sense : Sense) (rows : List Listing) (xs : List ℕ) (own : List ℤ) (are : AreOwnOr mark sense rows xs own) where
  -- the first i persons have no mark
  abbrev NoMarks : ℕ → Type 0
  NoMarks i = (k : ℕ) → IsNumber i k → numbered own k (pos 0) ≢ mark

  listed_at : (k : ℕ) → IsNumber (length rows) k → numbered own k (pos 0) ≢ mark → IsListed rows k (own_object xs k)
  listed_at k number differs = unmarked mark sense (listed_in (row_of rows k) (own_object xs k)) (λ e. differs (are.each k number ∙ e))

  pub all_unmarked : (i : ℕ) → length xs ≡ length rows → length rows ≤ i → NoMarks i → AreListed rows xs
  all_unmarked i long end none = pairs_from (λ row j. IsSome (listed_in row j)) rows xs [] 0 (sym long) (λ k some last.
      listed_at k (record { first = some; last = last }) (none k (record { first = some; last = omega arith })))

  pub first_marked : AreBelow mark sense rows → (i : ℕ) → i < length own → NoMarks i → numbered own (i + 1) (pos 0) ≡ mark →
      IsFirst (IsUnlisted rows xs) (length rows) (i + 1)
  first_marked below i lt none is =
      let long = are.long in
      let number : IsNumber (length rows) (i + 1) = record { first = omega arith; last = omega arith } in
      first_at (IsUnlisted rows xs) (length rows) i (omega arith)
      (λ k h f. f (listed_at k (record { first = h.first; last = let b = h.last in omega arith }) (none k h)))
      (marked mark sense (listed_in (row_of rows (i + 1)) (own_object xs (i + 1)))
      (λ c e. below (i + 1) (own_object xs (i + 1)) c number e)
      (sym (are.each (i + 1) number) ∙ is))
