-- The persons of a plan: their rows and own objects.
use Rattle.std.proofs.Common.{◌≡◌, ℕ, ℤ, ◌<◌, ◌+◌, ◌-◌, ◌*◌, ◌/◌, ◌%◌, zero, suc}
use Rattle.std.proofs.Common.{List, [], Option, None, Some, IsSome, length, get_or, Bool, true}
use Rattle.std.proofs.Common.{IsTrue, arith, rules, refl, sym, ap, ◌∙◌, subst}
use Rattle.std.specs.List.{All, AllZip}
use Rattle.std.proofs.lemmas.List.{get_or_default}
use Rattle.std.proofs.Math.Nat.{div-lt_iff_lt-mul}
use lib.Ieee.{Float, nan}
use Rattle.assign_core.specs.declared.sense.Sense.{Sense}
use Rattle.assign_core.specs.Numbered.{IsNumber, numbered}
use Rattle.assign_core.specs.Rows.{Listing, IsListed, listed_in, row_of}
use Rattle.assign_core.specs.Assignment.{AreListed}
use Rattle.assign_core.proofs.Listed.{object_within}
use Rattle.assign_core.proofs.NumberedLemmas.{numbered-next}
use Rattle.assign_core.proofs.Zips.{pairs_from}
use Rattle.cost_lists.specs.Exact.{AreChoices, IsChoice}
use Rattle.dual_checker.specs.Faults.{IsFirst, IsUnlisted, own_object}
use Rattle.double_costs.specs.Units.{is_number}
use Rattle.double_costs.specs.DoubleRows.{is_cost, row_of_doubles, rows_of_doubles}
use Rattle.double_costs.specs.Prices.{AreChoicesBy, IsChoiceBy}
use Rattle.double_costs.proofs.DoublePairs.{length-rows_of_doubles, part_length, row_within}
use Rattle.double_checker.specs.Verdicts.{AreCosts, price_units}
use Rattle.double_checker.specs.inside.Pairs.{at, row_part}
use Rattle.double_checker.specs.inside.Plans.{AreOwn, AreRowsSeen, IsFirstNotOwn, IsOwn, own_place}
use Rattle.double_checker.proofs.PlanRows.{entry_of, listed_at, part_at}
use Rattle.double_checker.proofs.PlanRows.{row_choice, row_choice_by, row_is}

-- the row of a person in a plan, and its own object
pub record IsPerson (m : ℕ) (costs : List Float) (xs : List ℕ) (i : ℕ) : Type 0 where
  pub row : row_of (rows_of_doubles m (length xs) costs) (i + 1) ≡ row_of_doubles 1 (row_part m i costs)
  pub wide : length (row_part m i costs) ≡ m
  pub own_within : own_place xs i < m
  pub object : own_object xs (i + 1) ≡ own_place xs i + 1
  pub finite : IsTrue (is_number (at (row_part m i costs) (own_place xs i)))

pub person_of : (m : ℕ) (costs : List Float) (xs : List ℕ) (i : ℕ) → length costs ≡ length xs * m → i < length xs →
    IsOwn m costs xs i → IsPerson m costs xs i
person_of m costs xs i long lt own =
    let f = own.number.first in
    let l = own.number.last in
    let w : own_place xs i < m = omega arith in
    record {
      row = row_is (length xs) m i costs lt;
      wide = part_length (length xs) m i costs long lt;
      own_within = w;
      object = numbered-next xs i 0 ∙ omega arith;
      finite = subst (λ (x : Float). IsTrue (is_number x)) (sym (part_at m i (own_place xs i) costs w)) own.finite;
    }

-- from the rows by place to the rows by number
by_numbers : (R : Listing → ℕ → Type 0) (m : ℕ) (costs : List Float) (xs : List ℕ) → length costs ≡ length xs * m →
    AreOwn m costs xs →
    ((i : ℕ) → i < length xs → IsPerson m costs xs i → R (row_of_doubles 1 (row_part m i costs))
    (own_place xs i + 1)) → AllZip R (rows_of_doubles m (length xs) costs) xs
by_numbers R m costs xs long own h =
    let same = length-rows_of_doubles m (length xs) costs in
    pairs_from R (rows_of_doubles m (length xs) costs) xs [] 0 same (λ j first last.
    let lt : j - 1 < length xs = omega arith in
    let p = person_of m costs xs (j - 1) long lt (own (j - 1) lt) in
    let e : j ≡ j - 1 + 1 = omega arith in
    subst (λ (q : ℕ). R (row_of (rows_of_doubles m (length xs) costs) q) (numbered xs q 0)) (sym e)
    (subst (λ (row : Listing). R row (own_object xs (j - 1 + 1))) (sym p.row)
    (subst (λ (q : ℕ). R (row_of_doubles 1 (row_part m (j - 1) costs)) q) (sym p.object) (h (j - 1) lt p))))

pub plan_listed : (m : ℕ) (costs : List Float) (xs : List ℕ) → length costs ≡ length xs * m → AreOwn m costs xs →
    AreListed (rows_of_doubles m (length xs) costs) xs
plan_listed m costs xs long own =
    by_numbers (λ row j. IsSome (listed_in row j)) m costs xs long own
    (λ i lt p. let w = p.wide in let o = p.own_within in
    rw (listed_at (row_part m i costs) (own_place xs i) (omega arith) p.finite) (search rules))

pub plan_choices : (sense : Sense) (margin : ℤ) (m : ℕ) (costs : List Float) (xs : List ℕ) (prices : List Float)
    (b : Bool) → length costs ≡ length xs * m → length prices ≡ m → AreOwn m costs xs →
    AreRowsSeen sense margin m costs xs prices b (length xs) →
    AreChoices sense (price_units prices) (rows_of_doubles m (length xs) costs) xs
plan_choices sense margin m costs xs prices b long priced own seen =
    by_numbers (IsChoice sense (price_units prices)) m costs xs long own
    (λ i lt p. let w = p.wide in let o = p.own_within in row_choice sense (row_part m i costs) prices
    (own_place xs i) (omega arith) (omega arith) p.finite (seen i lt).least)

pub plan_choices_by : (sense : Sense) (margin : ℤ) (m : ℕ) (costs : List Float) (xs : List ℕ) (prices : List Float)
    (b : Bool) → length costs ≡ length xs * m → length prices ≡ m → AreOwn m costs xs →
    AreRowsSeen sense margin m costs xs prices b (length xs) → b ≡ true →
    AreChoicesBy margin sense (price_units prices) (rows_of_doubles m (length xs) costs) xs
plan_choices_by sense margin m costs xs prices b long priced own seen e =
    by_numbers (IsChoiceBy margin sense (price_units prices)) m costs xs long own
    (λ i lt p. let w = p.wide in let o = p.own_within in row_choice_by sense margin (row_part m i costs) prices
    (own_place xs i) (omega arith) (omega arith) p.finite ((seen i lt).above e))

-- each place is that of a person and an object
pub plan_costs : (sense : Sense) (margin : ℤ) (m : ℕ) (costs : List Float) (xs : List ℕ) (prices : List Float)
    (b : Bool) → length costs ≡ length xs * m → length prices ≡ m → AreOwn m costs xs →
    AreRowsSeen sense margin m costs xs prices b (length xs) → AreCosts sense costs
plan_costs sense margin zero costs xs prices b long priced own seen k d lt = absurd (omega arith)
plan_costs sense margin (suc w) costs xs prices b long priced own seen k d lt =
    let m : ℕ = suc w in
    let i : k / m < length xs = (div-lt_iff_lt-mul {k = m} {x = k} {y = length xs} (omega arith)).1 (omega arith) in
    let j : k % m < m = omega arith in
    let e : k / m * m + k % m ≡ k = omega arith in
    let wide = part_length (length xs) m (k / m) costs long i in
    let s = ((seen (k / m) i).least (k % m) (omega arith)).cost_is in
    subst (λ (x : Float). IsTrue (is_cost sense x)) (part_at m (k / m) (k % m) costs j ∙ ap (at costs) e
    ∙ get_or_default costs k nan d lt) s

pub all_numbers : (m : ℕ) (costs : List Float) (xs : List ℕ) → AreOwn m costs xs → All (IsNumber m) xs
all_numbers m costs xs own k d lt = subst (IsNumber m) (get_or_default xs k 0 d lt) (own k lt).number

-- an own object is listed, and what is listed is an own object
own_listed : (m : ℕ) (costs : List Float) (xs : List ℕ) (i : ℕ) → length costs ≡ length xs * m → i < length xs →
    IsOwn m costs xs i → IsListed (rows_of_doubles m (length xs) costs) (i + 1) (own_object xs (i + 1))
own_listed m costs xs i long lt own =
    let p = person_of m costs xs i long lt own in
    let w = p.wide in
    let o = p.own_within in
    rw (p.row, p.object) (rw (listed_at (row_part m i costs) (own_place xs i) (omega arith) p.finite) (search rules))

listed_own : (m : ℕ) (costs : List Float) (xs : List ℕ) (i : ℕ) → length costs ≡ length xs * m → i < length xs →
    IsListed (rows_of_doubles m (length xs) costs) (i + 1) (own_object xs (i + 1)) → IsOwn m costs xs i
listed_own m costs xs i long lt s =
    let row = row_part m i costs in
    let wide : length row ≡ m = part_length (length xs) m i costs long lt in
    let x : ℕ = get_or xs i 0 in
    let t : IsSome (listed_in (row_of_doubles 1 row) x) =
    subst (λ (q : ℕ). IsSome (listed_in (row_of_doubles 1 row) q)) (numbered-next xs i 0)
    (subst (λ (r : Listing). IsSome (listed_in r (own_object xs (i + 1)))) (row_is (length xs) m i costs lt) s) in
    let n : IsNumber (length row) x = object_within (length row) (row_of_doubles 1 row) x
    (row_within 1 (length row) row (omega arith) (omega arith)) t in
    let c = some_of (listed_in (row_of_doubles 1 row) x) t in
    let e = entry_of row row x c.0 refl c.1 in
    let first = n.first in
    let last = n.last in
    let place : e.place ≡ own_place xs i = (let g = e.number in omega arith) in
    record {
      number = subst (λ (q : ℕ). IsNumber q x) wide n;
      finite = subst (λ (y : Float). IsTrue (is_number y))
          (ap (at row) place ∙ part_at m i (own_place xs i) costs (omega arith)) e.finite;
    }
  where
    some_of : (o : Option ℤ) → IsSome o → (c : ℤ) × (o ≡ Some c)
    some_of None h = absurd (search rules)
    some_of (Some c) h = (c, refl)

pub first_unlisted_is : (m : ℕ) (costs : List Float) (xs : List ℕ) (i : ℕ) → length costs ≡ length xs * m →
    IsFirstNotOwn m costs xs i → IsFirst (IsUnlisted (rows_of_doubles m (length xs) costs) xs) (length xs) i
first_unlisted_is m costs xs i long f =
    let a = f.number.first in
    let b = f.number.last in
    let e : i ≡ i - 1 + 1 = omega arith in
    record {
      number = f.number;
      here = λ s. f.here (listed_own m costs xs (i - 1) long (omega arith)
          (subst (λ (q : ℕ). IsListed (rows_of_doubles m (length xs) costs) q (own_object xs q)) e s));
      none_below = λ q p l n.
          let g : q ≡ q - 1 + 1 = omega arith in
          n (subst (λ (r : ℕ). IsListed (rows_of_doubles m (length xs) costs) r (own_object xs r)) (sym g)
          (own_listed m costs xs (q - 1) long (omega arith) (f.before (q - 1) (omega arith))));
    }
