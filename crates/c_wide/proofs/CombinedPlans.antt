-- Plans of a dense problem at combined costs, from the levels of its persons.
use Rattle.std.proofs.Common.{◌≡◌, ℕ, ℤ, pos, zero, suc, ◌+◌, ◌-◌, ◌*◌, ◌<◌, ◌+ℤ◌, ◌≤ℤ◌, List, [], ◌∷◌, Option, None, Some, IsSome, ◌≤◌}
use Rattle.std.proofs.Common.{length, get_or, unwrap_or, refl, arith, ap, sym, subst, ◌∙◌, nat_eq}
use Rattle.std.specs.List.{All, IsDistinct}
use Rattle.std.proofs.lemmas.Int.{ints}
use Rattle.assign_core.specs.declared.sense.Sense.{Sense}
use Rattle.assign_core.specs.Dense.{rows_cut}
use Rattle.assign_core.specs.Numbered.{IsNumber, numbered}
use Rattle.assign_core.specs.Prices.{price_of}
use Rattle.assign_core.specs.Assignment.{AreListed, IsAssignment, IsBest}
use Rattle.assign_core.specs.Rows.{Listing, IsWithin, listed_in, listed_or_zero, row_of}
use Rattle.assign_core.proofs.DenseRows.{length-rows_cut}
use Rattle.assign_core.proofs.Listed.{listing_within}
use Rattle.assign_core.proofs.NumberedLemmas.{numbered-index, numbered-next}
use Rattle.assign_core.proofs.Zips.{pairs_from}
use Rattle.dual_checker.specs.Faults.{own_object}
use Rattle.cost_lists.specs.Exact.{AreChoices, AreFree}
use Rattle.cost_lists.specs.ListedCosts.{ListedCosts}
use Rattle.cost_lists.specs.Own.{minimised}
use Rattle.cost_lists.specs.Source.{part_of}
use Rattle.cost_lists.proofs.CutRows.{cut_listed, cut_row, cut_within, listed_number, part_fits, part_long}
use Rattle.cost_lists.proofs.ExactDuality.{best_by_choices, no_price_below}
use Rattle.exact_checker.specs.Under.{IsUnder}
use Rattle.exact_checker.proofs.Better.{AreValues, choices_from}
use Rattle.wide_checker.specs.WideNumbers.{IsInPrices}
use Rattle.wide_checker.specs.WideOptimum.{IsWideOptimum}
use Rattle.c_wide.specs.fewest.Changes.{change, combined_row, combined_rows, with_change}
use Rattle.c_wide.proofs.CombinedRows.{combined_cost, listed_combined, same_length}

module _ (sense : Sense) (n : ℕ) where
  -- a person's row at combined costs
  row_is : (kept : List ℕ) (rows : List Listing) (q : ℕ) → length kept ≡ length rows →
      get_or (combined_rows sense n kept rows) q [] ≡ combined_row sense n (get_or kept q 0) (get_or rows q [])
  row_is [] [] q e = refl
  row_is [] (r ∷ rows) q e = absurd (omega (arith, e))
  row_is (k ∷ kept) [] q e = absurd (omega (arith, e))
  row_is (k ∷ kept) (r ∷ rows) zero e = refl
  row_is (k ∷ kept) (r ∷ rows) (suc q) e = row_is kept rows q (omega (arith, e))

  objects_same : (k : ℕ) (row : Listing) (i : ℕ) (d : ℕ × ℤ) → (get_or (combined_row sense n k row) i d).0 ≡ (get_or row i d).0
  objects_same k [] i d = refl
  objects_same k (e ∷ row) zero d = refl
  objects_same k (e ∷ row) (suc i) d = objects_same k row i d

  row_long : (k : ℕ) (row : Listing) → length (combined_row sense n k row) ≡ length row
  row_long k [] = refl
  row_long k (e ∷ row) = ap suc (row_long k row)

  row_within : (m k : ℕ) (row : Listing) → IsWithin m row → IsWithin m (combined_row sense n k row)
  row_within m k row h i d lt = subst (IsNumber m) (sym (objects_same k row i d)) (h i d (omega (arith, lt, row_long k row)))

  rows_within : (m : ℕ) (kept : List ℕ) (rows : List Listing) → length kept ≡ length rows → All (IsWithin m) rows → All (IsWithin m) (combined_rows sense n kept rows)
  rows_within m [] [] e h q d lt = absurd (omega arith)
  rows_within m [] (r ∷ rows) e h q d lt = absurd (omega (arith, e))
  rows_within m (k ∷ kept) [] e h q d lt = absurd (omega (arith, e))
  rows_within m (k ∷ kept) (r ∷ rows) e h zero d lt = row_within m k r (h 0 d (omega arith))
  rows_within m (k ∷ kept) (r ∷ rows) e h (suc q) d lt =
      rows_within m kept rows (omega (arith, e)) (λ i b below. h (suc i) b (omega arith)) q d (omega (arith, lt))

some_same : {a b : ℤ} → Some a ≡ Some b → a ≡ b
some_same e = cc

module _ (sense : Sense) (n m : ℕ) (kept : List ℕ) (costs : List ℤ) (kept_long : length kept ≡ n) (long : length costs ≡ n * m) where
  abbrev at : ℕ → ℕ → ℤ
  at i j = with_change sense n (get_or costs (i * m + j) (pos 0)) (change (get_or kept i 0) (j + 1))

  abbrev all : List Listing
  all = combined_rows sense n kept (rows_cut m n costs)

  same : length kept ≡ length (rows_cut m n costs)
  same = kept_long ∙ sym (length-rows_cut m n costs)

  row_at : (i : ℕ) → row_of all (i + 1) ≡ combined_row sense n (get_or kept i 0) (row_of (rows_cut m n costs) (i + 1))
  row_at i =
      numbered-next all i []
      ∙ row_is sense n kept (rows_cut m n costs) i same
      ∙ ap (combined_row sense n (get_or kept i 0)) (sym (numbered-next (rows_cut m n costs) i []))

  listed_at : (i j : ℕ) → i < n → j < m → listed_in (row_of all (i + 1)) (j + 1) ≡ Some (at i j)
  listed_at i j li lj =
      ap (λ (r : Listing). listed_in r (j + 1)) (row_at i)
      ∙ listed_combined sense n (get_or kept i 0) (row_of (rows_cut m n costs) (i + 1)) (j + 1)
      ∙ ap (combined_cost sense n (get_or kept i 0) (j + 1)) (cut_listed n m i j costs long li lj)

  count : length all ≡ n
  count = same_length sense n kept (rows_cut m n costs) same ∙ length-rows_cut m n costs

  -- an object that a person lists
  object_in : (i k : ℕ) → i < n → IsSome (listed_in (row_of all (i + 1)) k) → IsNumber m k
  object_in i k li seen =
      let whole = part_long m i costs (part_fits n m i costs long li) in
      let here = pair_back (get_or kept i 0) (row_of (rows_cut m n costs) (i + 1)) k (subst (λ (r : Listing). IsSome (listed_in r k)) (row_at i) seen) in
      subst (λ (q : ℕ). IsNumber q k) whole
      (listed_number (part_of m i costs) k (subst (λ (r : Listing). IsSome (listed_in r k)) (cut_row n m i costs li) here))
    where
      back : (k j : ℕ) (o : Option ℤ) → IsSome (combined_cost sense n k j o) → IsSome o
      back k j None s = s
      back k j (Some c) s = refl

      pair_back : (k : ℕ) (row : Listing) (j : ℕ) → IsSome (listed_in (combined_row sense n k row) j) → IsSome (listed_in row j)
      pair_back k row j s = back k j (listed_in row j) (subst (λ (o : Option ℤ). IsSome o) (listed_combined sense n k row j) s)

  module _ (xs : List ℕ) (prices levels : List ℤ) (priced : length prices ≡ m) where
    all_listed : length xs ≡ n → All (IsNumber m) xs → AreListed all xs
    all_listed xs_long within = pairs_from (λ (row : Listing) (j : ℕ). IsSome (listed_in row j)) all xs [] 0 (count ∙ sym xs_long) (λ i some last.
        let below : i ≤ n = omega (arith, last, count) in
        let x = numbered-index xs i 0 0 some (omega arith) in
        let number = within (i - 1) 0 (omega arith) in
        let first = number.first in
        let most = number.last in
        let listed = listed_at (i - 1) (get_or xs (i - 1) 0 - 1) (omega arith) (omega arith) in
        let person : i - 1 + 1 ≡ i = omega arith in
        let object : get_or xs (i - 1) 0 - 1 + 1 ≡ numbered xs i 0 = omega arith in
        subst (λ (p : ℕ). IsSome (listed_in (row_of all p) (numbered xs i 0))) person
        (subst (λ (j : ℕ). IsSome (listed_in (row_of all (i - 1 + 1)) j)) object (subst (λ (o : Option ℤ). IsSome o) (sym listed) refl)))

    -- each person's level is the sum of its own pair
    pub values_at : length xs ≡ n → All (IsNumber m) xs → length levels ≡ n →
        ((i : ℕ) → i < n → get_or levels i (pos 0) ≡ minimised sense (at i (get_or xs i 0 - 1)) +ℤ get_or prices (get_or xs i 0 - 1) (pos 0)) →
        (let l : ListedCosts = record { sense = sense; m = m; rows = all } in AreValues l xs prices levels)
    values_at xs_long within levels_long each i number =
        let first = number.first in
        let last : i ≤ n = omega (arith, number.last, count) in
        let back : i - 1 + 1 ≡ i = omega arith in
        let x : ℕ = get_or xs (i - 1) 0 in
        let own = within (i - 1) 0 (omega arith) in
        let x_first = own.first in
        let x_last = own.last in
        let x_back : x - 1 + 1 ≡ x = omega arith in
        let level = numbered-index levels i (pos 0) (pos 0) first (omega arith) in
        let object : own_object xs i ≡ x = numbered-index xs i 0 0 first (omega arith) in
        let price : price_of prices x ≡ get_or prices (x - 1) (pos 0) = numbered-index prices x (pos 0) (pos 0) x_first (omega arith) in
        let sum = each (i - 1) (omega arith) in
        let listed : listed_or_zero (row_of all i) x ≡ at (i - 1) (x - 1) =
        ap (λ (p : ℕ). listed_or_zero (row_of all p) x) (sym back)
        ∙ ap (λ (j : ℕ). listed_or_zero (row_of all (i - 1 + 1)) j) (sym x_back)
        ∙ ap (λ (o : Option ℤ). unwrap_or o (pos 0)) (listed_at (i - 1) (x - 1) (omega arith) (omega arith)) in
        level ∙ sum
        ∙ ap (λ (c : ℤ). minimised sense c +ℤ get_or prices (x - 1) (pos 0)) (sym listed)
        ∙ ap (λ (p : ℤ). minimised sense (listed_or_zero (row_of all i) x) +ℤ p) (sym price)
        ∙ ap (λ (j : ℕ). minimised sense (listed_or_zero (row_of all i) j) +ℤ price_of prices j) (sym object)

    -- no sum is below its person's level
    pub none_under_at : length levels ≡ n → ((i j : ℕ) → i < n → j < m → get_or levels i (pos 0) ≤ℤ (minimised sense (at i j) +ℤ get_or prices j (pos 0))) →
        (i k : ℕ) → ¬ IsUnder sense all prices levels i k
    none_under_at levels_long least i k u =
        let seen = subst (λ (o : Option ℤ). IsSome o) (sym u.listed) refl in
        let person = listing_within all i k seen in
        let first = person.first in
        let last : i ≤ n = omega (arith, person.last, count) in
        let back : i - 1 + 1 ≡ i = omega arith in
        let object = object_in (i - 1) k (omega arith) (subst (λ (p : ℕ). IsSome (listed_in (row_of all p) k)) (sym back) seen) in
        let k_first = object.first in
        let k_last = object.last in
        let k_back : k - 1 + 1 ≡ k = omega arith in
        let cost : at (i - 1) (k - 1) ≡ u.cost =
        some_same (sym (listed_at (i - 1) (k - 1) (omega arith) (omega arith))
        ∙ ap (λ (p : ℕ). listed_in (row_of all p) (k - 1 + 1)) back
        ∙ ap (λ (j : ℕ). listed_in (row_of all i) j) k_back
        ∙ u.listed) in
        let turned = ap (minimised sense) cost in
        let price = numbered-index prices k (pos 0) (pos 0) k_first (omega arith) in
        let value = numbered-index levels i (pos 0) (pos 0) first (omega arith) in
        let over = least (i - 1) (k - 1) (omega arith) (omega arith) in
        let under = u.under in
        omega (arith, ints)

    -- levels of the own pairs that no sum is below show a plan best
    pub optimum_at : length xs ≡ n → All (IsNumber m) xs → length levels ≡ n →
        ((i : ℕ) → i < n → get_or levels i (pos 0) ≡ minimised sense (at i (get_or xs i 0 - 1)) +ℤ get_or prices (get_or xs i 0 - 1) (pos 0)) →
        ((i j : ℕ) → i < n → j < m → get_or levels i (pos 0) ≤ℤ (minimised sense (at i j) +ℤ get_or prices j (pos 0))) →
        IsDistinct nat_eq xs → All IsInPrices prices → AreFree m prices xs →
        (let l : ListedCosts = record { sense = sense; m = m; rows = all } in IsWideOptimum l xs prices × IsBest sense all xs)
    optimum_at xs_long within levels_long each least apart in_range free =
        let l : ListedCosts = record { sense = sense; m = m; rows = all } in
        let assigned : IsAssignment all xs = record {
          listed = all_listed xs_long within;
          apart = apart;
        } in
        let choices : AreChoices sense prices all xs =
        choices_from l xs prices levels (values_at xs_long within levels_long each) (xs_long ∙ sym count) (none_under_at levels_long least) in
        let inside = rows_within sense n m kept (rows_cut m n costs) same (cut_within n m costs long) in (
          record { assigned = assigned; priced = priced; in_range = in_range; choices = choices; free = free },
          best_by_choices sense m all xs prices inside (λ j. no_price_below IsInPrices (λ p h. h.least) prices j in_range) assigned choices free,
        )
