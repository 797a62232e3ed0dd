-- Objects that change nothing, since none is above the limit by its narrow price.
use Rattle.std.proofs.Common.{◌≡◌, ℕ, zero, suc, ℤ, pos, neg_ℤ, ◌-ℤ◌, ◌+ℤ◌, ◌≤ℤ◌, ◌<ℤ◌, ◌+◌, ◌<◌, ◌≤◌, List, []}
use Rattle.std.proofs.Common.{◌∷◌, ◌++◌, length, take, get_or, arith, subst, SFits, w64}
use Rattle.std.specs.List.{All}
use Rattle.std.proofs.lemmas.Int.{ints}
use Rattle.assign_core.specs.Rows.{Listing}
use Rattle.assign_core.specs.Dense.{row_from}
use Rattle.assign_core.specs.Benefits.{IsBenefit}
use Rattle.assign_core.specs.Prices.{IsNarrow, IsNarrowed, price_of}
use Rattle.bidder.specs.declared.scan.BestTwo.{BestTwo}
use Rattle.bidder.specs.BestTwo.{IsBestTwo}
use Rattle.bidder.specs.inside.Limits.{IsLimit}
use Rattle.bidder.proofs.Scans.{no_better, full_on, full_below}

-- a benefit less a narrow price fits in 64 bits
pub difference_fits : (a n : ℤ) → IsBenefit a → IsNarrow n → SFits w64 (a -ℤ n)
difference_fits a n benefit narrow =
    let least = benefit.least in
    let greatest = benefit.greatest in
    let low = narrow.least in
    let high = narrow.greatest in
    record { sfits = grind (arith, ints) }

-- an object that isn't above the limit at a price that is at most its own
pub bounded : (row : Listing) (q : List ℤ) (b : BestTwo) (limit : ℤ) (j : ℕ) (a n : ℤ) → IsLimit b.second limit →
    IsBenefit a → IsNarrow n → n ≤ℤ price_of q j → (a -ℤ n) ≤ℤ limit
    → IsBestTwo row q b → All (λ e. e.0 < j) row → IsBestTwo (row ++ (j, a) ∷ []) q b
bounded row q b limit j a n bound benefit narrow below le is up =
    let w = bound (a -ℤ n) (above a n benefit narrow) le in
    no_better row q b w.0 j (a -ℤ price_of q j) a is w.1 up (back a (price_of q j)) (under a n (price_of q j) w.0 below w.2) where
      above : (a n : ℤ) → IsBenefit a → IsNarrow n → neg_ℤ (pos 9223372036854775808) <ℤ (a -ℤ n)
      above a n benefit narrow = let least = benefit.least in let greatest = narrow.greatest in omega (arith, ints)

      back : (a p : ℤ) → ((a -ℤ p) +ℤ p) ≡ a
      back a p = omega (arith, ints)

      under : (a n p w : ℤ) → n ≤ℤ p → (a -ℤ n) ≤ℤ w → (a -ℤ p) ≤ℤ w
      under a n p w below le = omega (arith, ints)

-- the object at place i of a full row
passed : (benefits narrow q : List ℤ) (b : BestTwo) (limit : ℤ) (i : ℕ) → IsLimit b.second limit → All IsBenefit benefits → IsNarrowed narrow q
    → length benefits ≡ length q → i < length benefits → (get_or benefits i (pos 0) -ℤ get_or narrow i (pos 0)) ≤ℤ limit
    → IsBestTwo (row_from 1 (take i benefits)) q b → IsBestTwo (row_from 1 (take (i + 1) benefits)) q b
passed benefits narrow q b limit i bound benefit small long lt le is =
    let same = small.below.long in
    let next : i + 1 ≡ suc i = omega arith in
    full_on benefits q b i (pos 0) lt
    (bounded (row_from 1 (take i benefits)) q b limit (i + 1) (get_or benefits i (pos 0)) (get_or narrow i (pos 0))
    bound (benefit i (pos 0) lt) (small.each i (pos 0) (omega arith))
    (rw next (small.below.each (suc i))) le is (full_below benefits i (omega arith)))

-- n objects from a place on
pub skipped : (benefits narrow q : List ℤ) (b : BestTwo) (limit : ℤ) (at n : ℕ) → IsLimit b.second limit → All IsBenefit benefits → IsNarrowed narrow q
    → length benefits ≡ length q → at + n ≤ length benefits
    → ((k : ℕ) (d : ℤ) → at ≤ k → k < at + n → (get_or benefits k d -ℤ get_or narrow k d) ≤ℤ limit)
    → IsBestTwo (row_from 1 (take at benefits)) q b → IsBestTwo (row_from 1 (take (at + n) benefits)) q b
skipped benefits narrow q b limit at zero bound benefit small long room none is =
    let same : at ≡ at + 0 = omega arith in
    subst (λ m. IsBestTwo (row_from 1 (take m benefits)) q b) same is
skipped benefits narrow q b limit at (suc n) bound benefit small long room none is =
    let i = at + n in
    let before = skipped benefits narrow q b limit at n bound benefit small long (omega arith) (λ k d from to. none k d from (omega arith)) is in
    let whole : i + 1 ≡ at + suc n = omega arith in
    subst (λ m. IsBestTwo (row_from 1 (take m benefits)) q b) whole
    (passed benefits narrow q b limit i bound benefit small long (omega arith) (none i (pos 0) (omega arith) (omega arith)) before)
