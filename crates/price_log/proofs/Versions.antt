-- Raises, the table of each version, and its sum.
use Rattle.std.proofs.Common.{◌≡◌, ℕ, ℤ, pos, zero, suc, ◌+ℤ◌, ◌≤ℤ◌, ◌+◌, ◌-◌, ◌*◌, ◌^◌, ◌<◌, ◌≤◌, List, []}
use Rattle.std.proofs.Common.{◌∷◌, ◌++◌, length, get_or, set, refl, arith, sym}
use Rattle.std.proofs.Common.{inl, inr}
use Rattle.std.specs.List.{All}
use Rattle.std.proofs.lemmas.Int.{ints}
use Rattle.std.proofs.lemmas.List.Elements.{All-head, All-tail, All-set}
use Rattle.std.proofs.lemmas.Bool.Decides.{eqb_tells}
use Rattle.assign_core.specs.Numbered.{renumbered}
use Rattle.assign_core.specs.declared.numbers.TheConstants.{MOST_PERSONS}
use Rattle.assign_core.specs.Prices.{IsBelow, IsPrice, IsTable, price_of}
use Rattle.assign_core.proofs.Matchings.{below_itself, below_through}
use Rattle.price_log.specs.declared.raise.Raise.{Raise}
use Rattle.price_log.specs.History.{History, IsHistory, IsRaise, Rises, last_version, raised, sum_of, today}
use Rattle.assign_core.proofs.NumberedLemmas.{numbered-same, numbered-other, length-renumbered}

pub raised-append : (t : List ℤ) (xs ys : List Raise) → raised t (xs ++ ys) ≡ raised (raised t xs) ys
raised-append t [] ys = refl
raised-append t (x ∷ xs) ys = raised-append (renumbered t x.object x.level) xs ys

pub Rises-append : (t : List ℤ) (xs ys : List Raise) → Rises t xs → Rises (raised t xs) ys → Rises t (xs ++ ys)
Rises-append t [] ys f g = g
Rises-append t (x ∷ xs) ys f g = (f.0, Rises-append (renumbered t x.object x.level) xs ys f.1 g)

pub Rises-rest : (t : List ℤ) (xs ys : List Raise) → Rises t (xs ++ ys) → Rises t xs × Rises (raised t xs) ys
Rises-rest t [] ys f = (tt, f)
Rises-rest t (x ∷ xs) ys f = let r = Rises-rest (renumbered t x.object x.level) xs ys f.1 in ((f.0, r.0), r.1)

-- a raise goes up
pub raise_up : (t : List ℤ) (r : Raise) → IsRaise t r → IsBelow t (renumbered t r.object r.level)
raise_up t r is = record {
  long = sym (length-renumbered t r.object r.level);
  each = λ k. elim (eqb_tells k r.object) [
    | inl same ↦ rw (same.1, numbered-same t r.object r.level (pos 0) is.object.first is.object.last) (let a = is.above in omega (arith, ints))
    | inr other ↦ rw (numbered-other t r.object k r.level (pos 0) other.1) (omega (arith, ints))
  ];
}

pub raises_up : (t : List ℤ) (xs : List Raise) → Rises t xs → IsBelow t (raised t xs)
raises_up t [] f = below_itself t
raises_up t (x ∷ xs) f = below_through t (renumbered t x.object x.level) (raised (renumbered t x.object x.level) xs)
    (raise_up t x f.0) (raises_up (renumbered t x.object x.level) xs f.1)

all_renumbered : (P : ℤ → Type 0) (p : List ℤ) (j : ℕ) (y : ℤ) → All P p → P y → All P (renumbered p j y)
all_renumbered P p zero y h e = h
all_renumbered P p (suc k) y h e = All-set P p k y e h

pub raise_table : (t : List ℤ) (r : Raise) → IsRaise t r → IsTable t → IsTable (renumbered t r.object r.level)
raise_table t r is h = record {
  few = let e = length-renumbered t r.object r.level in let f = h.few in omega arith;
  each = all_renumbered IsPrice t r.object r.level h.each is.price;
}

-- each version's table is one of prices
pub raised_table : (t : List ℤ) (xs : List Raise) → Rises t xs → IsTable t → IsTable (raised t xs)
raised_table t [] f h = h
raised_table t (x ∷ xs) f h = raised_table (renumbered t x.object x.level) xs f.1 (raise_table t x f.0 h)

sum-set : (p : List ℤ) (k : ℕ) (y : ℤ) → k < length p → (sum_of (set p k y) +ℤ get_or p k (pos 0)) ≡ (sum_of p +ℤ y)
sum-set [] k y lt = absurd (omega arith)
sum-set (x ∷ p) zero y lt = omega (arith, ints)
sum-set (x ∷ p) (suc k) y lt = let i = sum-set p k y (omega arith) in omega (arith, ints)

pub sum-renumbered : (p : List ℤ) (j : ℕ) (y : ℤ) → 0 < j → j ≤ length p → (sum_of (renumbered p j y) +ℤ price_of p j) ≡ (sum_of p +ℤ y)
sum-renumbered p zero y h l = absurd (omega arith)
sum-renumbered p (suc k) y h l = sum-set p k y (omega arith)

-- each raise adds 1 or more to the sum of the prices
pub sum_raised : (t : List ℤ) (xs : List Raise) → Rises t xs → (sum_of t +ℤ pos (length xs)) ≤ℤ sum_of (raised t xs)
sum_raised t [] f = omega (arith, ints)
sum_raised t (x ∷ xs) f =
    let s = sum-renumbered t x.object x.level f.0.object.first f.0.object.last in
    let a = f.0.above in
    let i = sum_raised (renumbered t x.object x.level) xs f.1 in
    let l : length (x ∷ xs) ≡ length xs + 1 = omega arith in
    rw l (omega (arith, ints))

pub sum_bound : (p : List ℤ) → All IsPrice p → sum_of p ≤ℤ pos (length p * 10 ^ 22)
sum_bound [] h = omega (arith, ints)
sum_bound (x ∷ p) h =
    let i = sum_bound p (All-tail IsPrice x p h) in
    let a = (All-head IsPrice x p h).below in
    let e : length (x ∷ p) * 10 ^ 22 ≡ length p * 10 ^ 22 + 10 ^ 22 = omega arith in
    rw e (omega (arith, ints))

-- the version of a log is at most the sum of its prices, and so fits in 128 bits
pub version_early : (log : History) → IsHistory log → pos (last_version log) ≤ℤ sum_of (today log)
version_early log is = let s = sum_raised log.base log.raises is.rises in let e = is.early in omega (arith, ints)

pub version_few : (log : History) → IsHistory log → last_version log ≤ MOST_PERSONS * 10 ^ 22
version_few log is =
    let e = version_early log is in
    let t = raised_table log.base log.raises is.rises is.base in
    let b = sum_bound (today log) t.each in
    let f = t.few in
    omega (arith, ints)

pub version_fits : (log : History) → IsHistory log → last_version log < 2 ^ 128
version_fits log is = let f = version_few log is in omega arith

-- the current prices are a table
pub today_is_table : (log : History) → IsHistory log → IsTable (today log)
today_is_table log is = raised_table log.base log.raises is.rises is.base
