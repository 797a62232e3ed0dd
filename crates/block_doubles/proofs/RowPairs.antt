-- From pairs by places to pairs of rows.
use Rattle.std.proofs.Common.{◌≡◌, ℕ, ℤ, pos, ◌+ℤ◌, ◌<ℤ◌, ◌≤ℤ◌, ◌<◌, ◌≤◌, ◌+◌, ◌-◌, ◌*◌, ◌⊎◌, zero, suc, List, [], ◌∷◌, Option, None, Some, IsSome, MatchOption}
use Rattle.std.proofs.Common.{length, get_or, IsTrue, inl, inr, refl, arith, ap, sym, subst, ◌∙◌}
use Rattle.std.proofs.lemmas.Int.{ints}
use lib.Ieee.{Float, nan}
use Rattle.assign_core.specs.declared.sense.Sense.{Sense}
use Rattle.assign_core.specs.Numbered.{IsNumber, numbered}
use Rattle.assign_core.specs.Rows.{Listing, listed_in, row_of}
use Rattle.assign_core.specs.Prices.{price_of}
use Rattle.assign_core.proofs.Listed.{listing_within}
use Rattle.assign_core.proofs.NumberedLemmas.{numbered-index}
use Rattle.dual_checker.specs.Faults.{IsFirst}
use Rattle.cost_lists.specs.Blocks.{IsBounded, reduced_sum}
use Rattle.cost_lists.specs.Own.{minimised}
use Rattle.exact_checker.specs.Under.{HasUnder, IsUnder}
use Rattle.double_costs.specs.Units.{is_number, units_of}
use Rattle.double_costs.specs.DoubleRows.{row_of_doubles, rows_of_doubles}
use Rattle.double_costs.proofs.DoublePairs.{length-rows_of_doubles, part_length}
use Rattle.double_checker.specs.Verdicts.{price_units}
use Rattle.double_checker.specs.inside.Pairs.{at, paid, row_part}
use Rattle.double_checker.proofs.PlanRows.{IsEntry, entry_of, listed_at, price_at, row_is}
use Rattle.block_doubles.specs.Pairs.{AreLeastPairs, AreMarks, IsBetterPair, IsLeastListed, ListsNothing, numbers_in}
use Rattle.block_doubles.specs.inside.Places.{AreAbove, IsFirstBetter, IsLeastAt, IsMarkAt, IsOwnAt, IsUnderAt, NoneBelow, NoneFinite, number_at}
use mathlib.Core.Bool.{true≢false}

-- the sum at a place
sum_at : (sense : Sense) (prices : List Float) (j : ℕ) (c : Float) → j < length prices →
    reduced_sum sense (price_units prices) (j + 1) (units_of c) ≡ paid sense c (at prices j)
sum_at sense prices j c lt = ap (λ (p : ℤ). minimised sense (units_of c) +ℤ p) (price_at prices j lt)

-- the number at a place
numbers_at : (sense : Sense) (costs prices : List Float) (i : ℕ) → length prices ≡ length costs → i < length costs →
    get_or (numbers_in sense costs prices) i (pos 0) ≡ number_at sense costs prices i
numbers_at sense [] prices i long lt = absurd (omega arith)
numbers_at sense (c ∷ costs) [] i long lt = absurd (omega arith)
numbers_at sense (c ∷ costs) (p ∷ prices) zero long lt = refl
numbers_at sense (c ∷ costs) (p ∷ prices) (suc i) long lt = numbers_at sense costs prices i (omega arith) (omega arith)

numbers_long : (sense : Sense) (costs prices : List Float) → length prices ≡ length costs →
    length (numbers_in sense costs prices) ≡ length costs
numbers_long sense [] prices long = refl
numbers_long sense (c ∷ costs) [] long = absurd (omega arith)
numbers_long sense (c ∷ costs) (p ∷ prices) long = ap suc (numbers_long sense costs prices (omega arith))

-- of one row

none_listed : (row : List Float) (k : ℕ) (d : ℤ) → NoneFinite row (length row) → ¬ (listed_in (row_of_doubles 1 row) k ≡ Some d)
none_listed row k d none e = let f = entry_of row row k d refl e in absurd (true≢false (sym f.finite ∙ none f.place f.within))

-- the sum of an entry
entry_sum : (sense : Sense) (row prices : List Float) (k : ℕ) (d : ℤ) (f : IsEntry row prices k d) →
    reduced_sum sense (price_units prices) k d ≡ paid sense (at row f.place) (at prices f.place)
entry_sum sense row prices k d f =
    ap (λ (c : ℤ). minimised sense c +ℤ price_of (price_units prices) k) f.cost
    ∙ ap (λ (p : ℤ). minimised sense (units_of (at row f.place)) +ℤ p) f.price

-- sums of the first objects that are no less than a number
bounded_to : (sense : Sense) (v : ℤ) (row prices : List Float) (most k : ℕ) (d : ℤ) → length row ≡ length prices →
    NoneBelow sense v row prices most → k ≤ most → listed_in (row_of_doubles 1 row) k ≡ Some d →
    v ≤ℤ reduced_sum sense (price_units prices) k d
bounded_to sense v row prices most k d long none le e =
    let f = entry_of row prices k d long e in
    let g = f.number in
    let b = none f.place (omega arith) f.finite in
    subst (λ (z : ℤ). v ≤ℤ z) (sym (entry_sum sense row prices k d f)) b

listed_to : (row : List Float) (k : ℕ) (d : ℤ) → listed_in (row_of_doubles 1 row) k ≡ Some d → k ≤ length row
listed_to row k d e = let f = entry_of row row k d refl e in let g = f.number in let w = f.within in omega arith

-- the pair of object j at its place
listed_here : (row : List Float) (j : ℕ) → IsNumber (length row) j → IsTrue (is_number (at row (j - 1))) →
    listed_in (row_of_doubles 1 row) j ≡ Some (units_of (at row (j - 1)))
listed_here row j number n =
    let first = number.first in let last = number.last in
    let e : j ≡ j - 1 + 1 = omega arith in
    ap (listed_in (row_of_doubles 1 row)) e ∙ listed_at row (j - 1) (omega arith) n

sum_here : (sense : Sense) (prices : List Float) (j : ℕ) (c : Float) → IsNumber (length prices) j →
    reduced_sum sense (price_units prices) j (units_of c) ≡ paid sense c (at prices (j - 1))
sum_here sense prices j c number =
    let first = number.first in let last = number.last in
    let e : j ≡ j - 1 + 1 = omega arith in
    ap (λ (k : ℕ). reduced_sum sense (price_units prices) k (units_of c)) e ∙ sum_at sense prices (j - 1) c (omega arith)

module _ (sense : Sense) (costs prices of_costs of_prices : List Float) (n : ℕ) (long : length costs ≡ n * length prices)
    (numbers_are : length of_costs ≡ n) (numbers_too : length of_prices ≡ n) where
  rows : List Listing
  rows = rows_of_doubles (length prices) n costs

  numbers : List ℤ
  numbers = numbers_in sense of_costs of_prices

  row : ℕ → List Float
  row i = row_part (length prices) (i - 1) costs

  person : (i j : ℕ) (c : ℤ) → listed_in (row_of (rows_of_doubles (length prices) n costs) i) j ≡ Some c → IsNumber n i
  person i j c e = subst (λ (k : ℕ). IsNumber k i) (length-rows_of_doubles (length prices) n costs)
      (listing_within (rows_of_doubles (length prices) n costs) i j (subst (λ (o : Option ℤ). IsSome o) (sym e) refl))

  row_here : (i : ℕ) → IsNumber n i →
      row_of (rows_of_doubles (length prices) n costs) i ≡ row_of_doubles 1 (row_part (length prices) (i - 1) costs)
  row_here i number =
      let first = number.first in let last = number.last in
      let e : i ≡ i - 1 + 1 = omega arith in
      ap (row_of (rows_of_doubles (length prices) n costs)) e ∙ row_is n (length prices) (i - 1) costs (omega arith)

  wide : (i : ℕ) → IsNumber n i → length (row_part (length prices) (i - 1) costs) ≡ length prices
  wide i number = let first = number.first in let last = number.last in
      part_length n (length prices) (i - 1) costs long (omega arith)

  number_here : (i : ℕ) → IsNumber n i →
      numbered (numbers_in sense of_costs of_prices) i (pos 0) ≡ number_at sense of_costs of_prices (i - 1)
  number_here i number =
      let first = number.first in let last = number.last in
      let l = numbers_long sense of_costs of_prices (numbers_too ∙ sym numbers_are) in
      let a = numbers_are in
      numbered-index (numbers_in sense of_costs of_prices) i (pos 0) (pos 0) first (omega arith)
      ∙ numbers_at sense of_costs of_prices (i - 1) (numbers_too ∙ sym numbers_are) (omega arith)

  in_row : (i j : ℕ) (c : ℤ) (number : IsNumber n i) → listed_in (row_of (rows_of_doubles (length prices) n costs) i) j ≡ Some c →
      listed_in (row_of_doubles 1 (row_part (length prices) (i - 1) costs)) j ≡ Some c
  in_row i j c number e = subst (λ (r : Listing). listed_in r j ≡ Some c) (row_here i number) e

  from_row : (i j : ℕ) (c : ℤ) (number : IsNumber n i) → listed_in (row_of_doubles 1 (row_part (length prices) (i - 1) costs)) j ≡ Some c →
      listed_in (row_of (rows_of_doubles (length prices) n costs) i) j ≡ Some c
  from_row i j c number e = subst (λ (r : Listing). listed_in r j ≡ Some c) (sym (row_here i number)) e

  -- where the first objects of a person's row aren't below its number
  bounded_at : (i most j : ℕ) (c : ℤ) (number : IsNumber n i) →
      NoneBelow sense (number_at sense of_costs of_prices (i - 1)) (row_part (length prices) (i - 1) costs) prices most → j ≤ most →
      listed_in (row_of (rows_of_doubles (length prices) n costs) i) j ≡ Some c →
      numbered (numbers_in sense of_costs of_prices) i (pos 0) ≤ℤ reduced_sum sense (price_units prices) j c
  bounded_at i most j c number none le e =
      subst (λ (z : ℤ). z ≤ℤ reduced_sum sense (price_units prices) j c) (sym (number_here i number))
      (bounded_to sense (number_at sense of_costs of_prices (i - 1)) (row_part (length prices) (i - 1) costs) prices most j c
      (wide i number) none le (in_row i j c number e))

  object_to : (i j : ℕ) (c : ℤ) (number : IsNumber n i) → listed_in (row_of (rows_of_doubles (length prices) n costs) i) j ≡ Some c →
      j ≤ length prices
  object_to i j c number e =
      let l = listed_to (row_part (length prices) (i - 1) costs) j c (in_row i j c number e) in
      let w = wide i number in omega arith

  pub bounded : AreAbove sense costs prices of_costs of_prices n →
      IsBounded sense (rows_of_doubles (length prices) n costs) (price_units prices) (numbers_in sense of_costs of_prices)
  bounded above i j c e =
      let number = person i j c e in
      let first = number.first in let last = number.last in
      bounded_at i (length prices) j c number (above (i - 1) (omega arith)) (object_to i j c number e) e

  under : (i j : ℕ) (number : IsNumber n i) → IsNumber (length (row_part (length prices) (i - 1) costs)) j →
      IsUnderAt sense (number_at sense of_costs of_prices (i - 1)) (row_part (length prices) (i - 1) costs) prices (j - 1) →
      IsUnder sense (rows_of_doubles (length prices) n costs) (price_units prices) (numbers_in sense of_costs of_prices) i j
  under i j number object u =
      let r = row_part (length prices) (i - 1) costs in
      let c : Float = at (row_part (length prices) (i - 1) costs) (j - 1) in
      let s = sum_here sense prices j c (subst (λ (k : ℕ). IsNumber k j) (wide i number) object) in
      let v = number_here i number in
      let l = u.1 in
      record {
        cost = units_of (at (row_part (length prices) (i - 1) costs) (j - 1));
        listed = from_row i j (units_of c) number (listed_here (row_part (length prices) (i - 1) costs) j object u.0);
        under = omega (arith, ints);
      }

  better_here : (i j : ℕ) (number : IsNumber n i) → IsNumber (length prices) j →
      IsUnderAt sense (number_at sense of_costs of_prices (i - 1)) (row_part (length prices) (i - 1) costs) prices (j - 1) →
      IsBetterPair sense (rows_of_doubles (length prices) n costs) (price_units prices) (numbers_in sense of_costs of_prices)
      i j (at (row_part (length prices) (i - 1) costs) (j - 1))
  better_here i j number object u =
      let c : Float = at (row_part (length prices) (i - 1) costs) (j - 1) in
      let inside = subst (λ (k : ℕ). IsNumber k j) (sym (wide i number)) object in
      let s = sum_here sense prices j c object in
      let v = number_here i number in
      let l = u.1 in
      record {
        finite = u.0;
        listed = from_row i j (units_of c) number (listed_here (row_part (length prices) (i - 1) costs) j inside u.0);
        under = omega (arith, ints);
      }

  -- the same by places
  pub better_at : (i k : ℕ) (line : List Float) → i < n → k < length prices → line ≡ row_part (length prices) i costs →
      IsTrue (is_number (at line k)) → paid sense (at line k) (at prices k) <ℤ number_at sense of_costs of_prices i →
      IsBetterPair sense (rows_of_doubles (length prices) n costs) (price_units prices) (numbers_in sense of_costs of_prices)
      (i + 1) (k + 1) (at line k)
  better_at i k line lt inside e finite below =
      let a : i + 1 - 1 ≡ i = omega arith in
      let b : k + 1 - 1 ≡ k = omega arith in
      let here : IsUnderAt sense (number_at sense of_costs of_prices i) (row_part (length prices) i costs) prices k =
      subst (λ (r : List Float). IsUnderAt sense (number_at sense of_costs of_prices i) r prices k) e (finite, below) in
      let there : IsUnderAt sense (number_at sense of_costs of_prices (i + 1 - 1)) (row_part (length prices) (i + 1 - 1) costs) prices (k + 1 - 1) =
      rw (a, b) here in
      let same : at (row_part (length prices) (i + 1 - 1) costs) (k + 1 - 1) ≡ at line k =
      rw (a, b) (ap (λ (r : List Float). at r k) (sym e)) in
      subst (λ (c : Float). IsBetterPair sense (rows_of_doubles (length prices) n costs) (price_units prices)
      (numbers_in sense of_costs of_prices) (i + 1) (k + 1) c) same
      (better_here (i + 1) (k + 1) (record { first = omega arith; last = omega arith }) (record { first = omega arith; last = omega arith }) there)

  not_under : (i most j : ℕ) (number : IsNumber n i) →
      NoneBelow sense (number_at sense of_costs of_prices (i - 1)) (row_part (length prices) (i - 1) costs) prices most → j ≤ most →
      ¬ IsUnder sense (rows_of_doubles (length prices) n costs) (price_units prices) (numbers_in sense of_costs of_prices) i j
  not_under i most j number none le u =
      let b = bounded_at i most j u.cost number none le u.listed in
      let l = u.under in omega (arith, ints)

  pub first_person : (i j : ℕ) → IsFirstBetter sense costs prices of_costs of_prices n i j →
      IsFirst (HasUnder sense (rows_of_doubles (length prices) n costs) (price_units prices) (numbers_in sense of_costs of_prices)) n i
  first_person i j f = record {
    number = f.person;
    here = (j, under i j f.person f.object.number f.object.here);
    none_below = λ k some lt h.
        let last = f.person.last in
        let number : IsNumber n k = record { first = some; last = omega arith } in
        not_under k (length prices) h.0 number (f.before (k - 1) (omega arith)) (object_to k h.0 h.1.cost number h.1.listed) h.1;
  }

  pub first_object : (i j : ℕ) → IsFirstBetter sense costs prices of_costs of_prices n i j →
      IsFirst (IsUnder sense (rows_of_doubles (length prices) n costs) (price_units prices) (numbers_in sense of_costs of_prices) i) (length prices) j
  first_object i j f = record {
    number = subst (λ (k : ℕ). IsNumber k j) (wide i f.person) f.object.number;
    here = under i j f.person f.object.number f.object.here;
    none_below = λ k some lt u. not_under i (j - 1) k f.person f.object.none_below (omega arith) u;
  }

  least_here : (i j : ℕ) (c : Float) → IsNumber n i → IsLeastAt sense (row_part (length prices) (i - 1) costs) prices j c →
      ((j ≡ 0) × ListsNothing (rows_of_doubles (length prices) n costs) i)
      ⊎ IsLeastListed sense (rows_of_doubles (length prices) n costs) (price_units prices) i j c
  least_here i j c number (inl a) = inl (a.0, λ k d e. none_listed (row_part (length prices) (i - 1) costs) k d a.1 (in_row i k d number e))
  least_here i j c number (inr f) =
      let r = row_part (length prices) (i - 1) costs in
      let object : IsNumber (length (row_part (length prices) (i - 1) costs)) j = record { first = f.first; last = f.within } in
      let w = wide i number in
      let too : IsNumber (length prices) j = subst (λ (k : ℕ). IsNumber k j) w object in
      let finite = subst (λ (x : Float). IsTrue (is_number x)) (sym f.cost) f.finite in
      let s = sum_here sense prices j c too in
      inr (record {
        finite = f.finite;
        listed = from_row i j (units_of c) number
            (listed_here (row_part (length prices) (i - 1) costs) j object finite ∙ ap (λ (x : Float). Some (units_of x)) f.cost);
        none_below = λ k d e.
            let l = listed_to (row_part (length prices) (i - 1) costs) k d (in_row i k d number e) in
            let b = bounded_to sense (paid sense c (at prices (j - 1))) (row_part (length prices) (i - 1) costs) prices
            (length (row_part (length prices) (i - 1) costs)) k d w f.least l (in_row i k d number e) in
            omega (arith, ints);
      })

  pub least_pairs : (objects : List ℕ) (paids : List Float) → length objects ≡ n → length paids ≡ n →
      ((i : ℕ) → i < length objects → IsLeastAt sense (row_part (length prices) i costs) prices (get_or objects i 0) (get_or paids i nan)) →
      AreLeastPairs sense (rows_of_doubles (length prices) n costs) (price_units prices) objects paids
  least_pairs objects paids lo lp at_places =
      let same = length-rows_of_doubles (length prices) n costs in
      record {
        long = lo ∙ sym same;
        costs_long = lp ∙ sym same;
        each = λ i number.
            let first = number.first in let last = number.last in
            let here : IsNumber n i = record { first = first; last = omega arith } in
            let a = numbered-index objects i 0 0 first (omega arith) in
            let b = numbered-index paids i nan nan first (omega arith) in
            rw (a, b) (least_here i (get_or objects (i - 1) 0) (get_or paids (i - 1) nan) here (at_places (i - 1) (omega arith)));
      }

  shown : (i j : ℕ) → IsNumber n i →
      IsOwnAt sense (number_at sense of_costs of_prices (i - 1)) (row_part (length prices) (i - 1) costs) prices j →
      (c : ℤ) × (listed_in (row_of (rows_of_doubles (length prices) n costs) i) j ≡ Some c)
      × (reduced_sum sense (price_units prices) j c ≡ numbered (numbers_in sense of_costs of_prices) i (pos 0))
  shown i j number o =
      let c : Float = at (row_part (length prices) (i - 1) costs) (j - 1) in (
        units_of (at (row_part (length prices) (i - 1) costs) (j - 1)),
        from_row i j (units_of c) number (listed_here (row_part (length prices) (i - 1) costs) j o.number o.finite),
        sum_here sense prices j c (subst (λ (k : ℕ). IsNumber k j) (wide i number) o.number) ∙ o.same ∙ sym (number_here i number),
      )

  own_from : (i j : ℕ) → IsNumber n i →
      (c : ℤ) × (listed_in (row_of (rows_of_doubles (length prices) n costs) i) j ≡ Some c)
      × (reduced_sum sense (price_units prices) j c ≡ numbered (numbers_in sense of_costs of_prices) i (pos 0)) →
      IsOwnAt sense (number_at sense of_costs of_prices (i - 1)) (row_part (length prices) (i - 1) costs) prices j
  own_from i j number s =
      let f = entry_of (row_part (length prices) (i - 1) costs) prices j s.0 (wide i number) (in_row i j s.0 number s.1) in
      let g = f.number in let w = f.within in
      let e : f.place ≡ j - 1 = omega arith in
      record {
        number = record { first = omega arith; last = omega arith };
        finite = subst (λ (k : ℕ). IsTrue (is_number (at (row_part (length prices) (i - 1) costs) k))) e f.finite;
        same = ap (λ (k : ℕ). paid sense (at (row_part (length prices) (i - 1) costs) k) (at prices k)) (sym e)
            ∙ sym (entry_sum sense (row_part (length prices) (i - 1) costs) prices j s.0 f) ∙ s.2 ∙ number_here i number;
      }

  pub own_marks : (xs marks : List ℕ) → length xs ≡ n → length marks ≡ n →
      ((i : ℕ) → i < length marks → IsMarkAt sense (number_at sense of_costs of_prices i) (row_part (length prices) i costs) prices
      (get_or xs i 0) (get_or marks i 0)) →
      AreMarks sense (rows_of_doubles (length prices) n costs) (price_units prices) xs (numbers_in sense of_costs of_prices) marks
  own_marks xs marks lx lm at_places =
      let same = length-rows_of_doubles (length prices) n costs in
      record {
        long = lm ∙ sym same;
        zero_or_one = λ i number.
            let first = number.first in let last = number.last in
            rw (numbered-index marks i 0 0 first (omega arith)) ((at_places (i - 1) (omega arith)).zero_or_one);
        each = λ i number.
            let first = number.first in let last = number.last in
            let here : IsNumber n i = record { first = first; last = omega arith } in
            let mark = at_places (i - 1) (omega arith) in
            let j : ℕ = get_or xs (i - 1) 0 in
            rw (numbered-index marks i 0 0 first (omega arith), numbered-index xs i 0 0 first (omega arith)) (
              (λ h. shown i (get_or xs (i - 1) 0) here (mark.one.0 h)),
              (λ s. mark.one.1 (own_from i (get_or xs (i - 1) 0) here s)),
            );
      }

  pub told : (f : Option (ℕ × ℕ)) →
      MatchOption f (AreAbove sense costs prices of_costs of_prices n) (λ p. IsFirstBetter sense costs prices of_costs of_prices n p.0 p.1) →
      MatchOption f (IsBounded sense (rows_of_doubles (length prices) n costs) (price_units prices) (numbers_in sense of_costs of_prices))
      (λ p. IsFirst (HasUnder sense (rows_of_doubles (length prices) n costs) (price_units prices) (numbers_in sense of_costs of_prices)) n p.0
      × IsFirst (IsUnder sense (rows_of_doubles (length prices) n costs) (price_units prices) (numbers_in sense of_costs of_prices) p.0)
      (length prices) p.1)
  told None h = bounded h
  told (Some p) h = (first_person p.0 p.1 h, first_object p.0 p.1 h)
