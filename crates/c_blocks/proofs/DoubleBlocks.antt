-- What a look at a block over doubles shows of a caller's problem.
use Rattle.std.proofs.Common.{◌≡◌, ℕ, ℤ, pos, zero, suc, List, Option, None, Some, MatchOption, length, get_or, inl, inr, refl, arith, ap, sym, subst, ◌∙◌}
use Rattle.std.proofs.lemmas.Int.{ints}
use lib.Ieee.{Float, nan}
use Rattle.assign_core.specs.declared.sense.Sense.{Sense}
use Rattle.assign_core.specs.Rows.{Listing}
use Rattle.dual_checker.specs.Faults.{IsFirst}
use Rattle.cost_lists.specs.Blocks.{IsBounded}
use Rattle.exact_checker.specs.Under.{HasUnder, IsUnder}
use Rattle.double_costs.specs.Units.{units_of}
use Rattle.double_costs.specs.DoubleRows.{rows_of_doubles}
use Rattle.double_costs.proofs.DoublePairs.{length-rows_of_doubles}
use Rattle.double_checker.specs.Verdicts.{price_units}
use Rattle.block_doubles.specs.Pairs.{AreLeastPairs, AreMarks, AreWritten, PairLists, numbers_in}
use Rattle.c_calls.specs.doubles.Faults.{IsWhole}
use Rattle.c_calls.specs.doubles.Input.{InputDoubles, rows_in}
use Rattle.c_blocks.specs.DoubleBlocks.{AreFinite, AreShown, HasNoMemory, NamesPair, Numbers, Shown}

-- the first pair of rows for so many persons and objects
abbrev pub OfFirst : Sense → List ℤ → List ℤ → List Listing → ℕ → ℕ → Option (ℕ × ℕ) → Type 0
OfFirst sense prices numbers rows n m f =
    MatchOption f (IsBounded sense rows prices numbers)
    (λ p. IsFirst (HasUnder sense rows prices numbers) n p.0 × IsFirst (IsUnder sense rows prices numbers p.0) m p.1)

-- where no pair is better none is written
none_written : (sense : Sense) (rows : List Listing) (prices numbers : List ℤ) (most count : ℕ) (before after : PairLists) →
    IsBounded sense rows prices numbers → AreWritten sense rows prices numbers most count before after → count ≡ 0
none_written sense rows prices numbers most zero before after bounded w = refl
none_written sense rows prices numbers most (suc k) before after bounded w =
    let b = w.better 0 (omega arith) in
    let le = bounded (get_or after.persons 0 0) (get_or after.objects 0 0) (units_of (get_or after.costs 0 nan)) b.listed in
    let lt = b.under in
    absurd (omega (arith, ints))

-- what a call says of the first better pair and of how many it wrote
abbrev pub IsTold : ℕ → Shown → Shown → ℤ → Option (ℕ × ℕ) → Type 0
IsTold count before after code f =
    MatchOption f ((code ≡ pos 0) × (after.info ≡ record before.info { persons = count }))
    (λ p. (code ≡ pos 14) × (after.info ≡ record before.info { persons = count; person = p.0; object = p.1 }))

named : (sense : Sense) (prices numbers : List ℤ) (rows : List Listing) (m most count : ℕ) (before after : Shown) (code : ℤ) (f : Option (ℕ × ℕ)) →
    OfFirst sense prices numbers rows (length rows) m f → AreWritten sense rows prices numbers most count before.better after.better →
    IsTold count before after code f → NamesPair sense rows m prices numbers count before.info after.info code
named sense prices numbers rows m most count before after code None h w r =
    inl (h, r.0, none_written sense rows prices numbers most count before.better after.better h w, r.1)
named sense prices numbers rows m most count before after code (Some p) h w r = inr (p.0, p.1, h.0, h.1, r.0, r.1)

pub shown : (g : InputDoubles) (sense : Sense) (numbers : Numbers) (most count : ℕ) (before after : Shown) (code : ℤ) (f : Option (ℕ × ℕ)) (costs : List Float) →
    IsWhole g sense → costs ≡ g.costs → length numbers.objects ≡ g.n → length numbers.of_costs ≡ g.n → length numbers.prices ≡ g.m → AreFinite numbers.prices →
    AreFinite numbers.of_costs → AreFinite numbers.of_prices →
    AreLeastPairs sense (rows_of_doubles (length numbers.prices) (length numbers.objects) costs) (price_units numbers.prices) after.objects after.costs →
    AreMarks sense (rows_of_doubles (length numbers.prices) (length numbers.objects) costs) (price_units numbers.prices) numbers.objects
    (numbers_in sense numbers.of_costs numbers.of_prices) after.own →
    OfFirst sense (price_units numbers.prices) (numbers_in sense numbers.of_costs numbers.of_prices)
    (rows_of_doubles (length numbers.prices) (length numbers.objects) costs) (length numbers.objects) (length numbers.prices) f →
    AreWritten sense (rows_of_doubles (length numbers.prices) (length numbers.of_costs) costs) (price_units numbers.prices)
    (numbers_in sense numbers.of_costs numbers.of_prices) most count before.better after.better →
    IsTold count before after code f →
    AreShown g numbers most before after code
shown g sense numbers most count before after code f costs whole same ns cs ms fp fc fq least own first better told =
    let p : List ℤ = price_units numbers.prices in
    let v : List ℤ = numbers_in sense numbers.of_costs numbers.of_prices in
    let rows : rows_of_doubles (length numbers.prices) (length numbers.objects) costs ≡ rows_in g =
    ap (λ (c : List Float). rows_of_doubles (length numbers.prices) (length numbers.objects) c) same
    ∙ ap (λ (k : ℕ). rows_of_doubles (length numbers.prices) k g.costs) ns ∙ ap (λ (k : ℕ). rows_of_doubles k g.n g.costs) ms in
    let written = subst (λ (k : ℕ). AreWritten sense (rows_of_doubles (length numbers.prices) k costs) (price_units numbers.prices)
    (numbers_in sense numbers.of_costs numbers.of_prices) most count before.better after.better) (cs ∙ sym ns) better in
    let here = subst (λ (r : List Listing). AreWritten sense r (price_units numbers.prices)
    (numbers_in sense numbers.of_costs numbers.of_prices) most count before.better after.better) rows written in
    let long : length numbers.objects ≡ length (rows_in g) = ns ∙ sym (length-rows_of_doubles g.m g.n g.costs) in
    let one = subst (λ (r : List Listing). OfFirst sense (price_units numbers.prices) (numbers_in sense numbers.of_costs numbers.of_prices)
    r (length numbers.objects) (length numbers.prices) f) rows first in
    let two = subst (λ (k : ℕ). OfFirst sense (price_units numbers.prices) (numbers_in sense numbers.of_costs numbers.of_prices)
    (rows_in g) k (length numbers.prices) f) long one in
    let three = subst (λ (k : ℕ). OfFirst sense (price_units numbers.prices) (numbers_in sense numbers.of_costs numbers.of_prices)
    (rows_in g) (length (rows_in g)) k f) ms two in
    record {
      sense = sense;
      whole = whole;
      prices_finite = fp;
      numbers_finite = (fc, fq);
      least = subst (λ (r : List Listing). AreLeastPairs sense r (price_units numbers.prices) after.objects after.costs) rows least;
      own = subst (λ (r : List Listing). AreMarks sense r (price_units numbers.prices) numbers.objects
          (numbers_in sense numbers.of_costs numbers.of_prices) after.own) rows own;
      count = count;
      better = here;
      named = named sense p v (rows_in g) g.m most count before after code f three here told;
    }

-- where memory was refused, all stays
pub memory_refused : (g : InputDoubles) (sense : Sense) (numbers : Numbers) (before after : Shown) → IsWhole g sense →
    AreFinite numbers.prices → AreFinite numbers.of_costs → AreFinite numbers.of_prices →
    after.objects ≡ before.objects → after.costs ≡ before.costs → after.own ≡ before.own →
    after.better.persons ≡ before.better.persons → after.better.objects ≡ before.better.objects →
    after.better.costs ≡ before.better.costs → after.info ≡ before.info → HasNoMemory g numbers before after (pos 9)
memory_refused g sense numbers before after whole fp fc fq objects costs own persons others paid info = record {
  whole = record { sense = sense; whole = whole };
  prices_finite = fp;
  numbers_finite = (fc, fq);
  is = refl;
  stays = rw (objects, costs, own, persons, others, paid, info) refl;
}
