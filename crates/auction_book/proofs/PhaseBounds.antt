-- No phase leaves the range of prices.
use Rattle.std.proofs.Common.{◌≡◌, ℕ, ℤ, pos, zero, suc, ◌+ℤ◌, ◌*ℤ◌, ◌≤ℤ◌, ◌<ℤ◌, ◌-◌, ◌*◌, List, [], ◌∷◌, length, get_or, refl, arith}
use Rattle.std.specs.List.{All}
use Rattle.std.proofs.lemmas.Int.{ints}
use Rattle.std.proofs.Math.IntN.{suc_ℤ-*ℤ, pos-*ℤ-pos}
use lib.IntN.{zero-*ℤ}
use Rattle.assign_core.specs.Rows.{IsProblem}
use Rattle.assign_core.specs.declared.numbers.TheConstants.{MOST_PERSONS, PRICE_END}
use Rattle.assign_core.specs.Prices.{price_of}
use Rattle.scaled_values.specs.Limits.{most_step}
use Rattle.scaled_values.specs.Scaled.{ScaledProblem, IsEps, first_eps, greatest_of, spread, top_of}
use Rattle.scaled_values.proofs.BenefitRange.{IsSpread-spread, greatest_bounds, greatest_holds}
use Rattle.scaled_values.proofs.EpsList.{IsStep-spread, IsEps-first, few, range_of_eps}
use Rattle.bidder.specs.declared.offers.Ask.{Ask}
use Rattle.auction_book.specs.Free.{IsPhase}

pub times_more : (n : ℕ) (x y : ℤ) → x ≤ℤ y → (pos n *ℤ x) ≤ℤ (pos n *ℤ y)
times_more zero x y h = let a = zero-*ℤ x in let b = zero-*ℤ y in omega (arith, ints)
times_more (suc n) x y h =
    let a : pos (suc n) *ℤ x ≡ (pos n *ℤ x) +ℤ x = suc_ℤ-*ℤ (pos n) x in
    let b : pos (suc n) *ℤ y ≡ (pos n *ℤ y) +ℤ y = suc_ℤ-*ℤ (pos n) y in
    let i = times_more n x y h in
    omega (arith, ints)

pub times_positive : (n : ℕ) (x : ℤ) → pos 0 ≤ℤ x → pos 0 ≤ℤ (pos n *ℤ x)
times_positive zero x h = let a = zero-*ℤ x in omega (arith, ints)
times_positive (suc n) x h =
    let a : pos (suc n) *ℤ x ≡ (pos n *ℤ x) +ℤ x = suc_ℤ-*ℤ (pos n) x in
    let i = times_positive n x h in
    omega (arith, ints)

pub is_eps : (s : ScaledProblem) (ask : Ask) (start : List ℤ) → IsPhase s ask start → IsEps s ask.eps
is_eps s ask start h = record { phases = ask.phase - 1; at = h.slackness }

-- a step is at most this
abbrev pub span_step : ℕ
span_step = 20000000000000000

step_most : {x : ℤ} → x ≤ℤ most_step → x ≤ℤ pos span_step
step_most h = let e : most_step ≡ pos 19663200000000000 = refl in omega (arith, ints)

-- a phase's span is at most the first phase's, which is bounded
pub record HasSpan (s : ScaledProblem) (eps : ℤ) : Type 0 where
  pub least : pos 0 ≤ℤ (pos (length s.problem) *ℤ (spread s +ℤ eps))
  pub first : (pos (length s.problem) *ℤ (spread s +ℤ eps)) ≤ℤ (pos (length s.problem) *ℤ (spread s +ℤ first_eps s))
  pub most : (pos (length s.problem) *ℤ (spread s +ℤ first_eps s)) ≤ℤ pos (MOST_PERSONS * span_step)

pub span : (s : ScaledProblem) (eps : ℤ) → IsProblem s.problem → IsEps s eps → HasSpan s eps
span s eps h e =
    let d = IsSpread-spread s h in
    let x = IsStep-spread s eps d e in
    let y = IsStep-spread s (first_eps s) d (IsEps-first s (first_eps s) refl) in
    let r = range_of_eps s eps e in
    let n = length s.problem in
    let few = h.size.few in
    let m = times_more n (spread s +ℤ first_eps s) (pos span_step) (step_most y.greatest) in
    let p : pos n *ℤ pos span_step ≡ pos (n * span_step) = pos-*ℤ-pos n span_step in
    record {
      least = times_positive n (spread s +ℤ eps) x.least;
      first = times_more n (spread s +ℤ eps) (spread s +ℤ first_eps s) (let g = r.greatest in omega (arith, ints));
      most = omega (arith, ints);
    }

-- the top of a phase is a price
pub top_fits : (s : ScaledProblem) (ask : Ask) (start : List ℤ) → IsProblem s.problem → IsPhase s ask start → top_of s (greatest_of start) ask.eps <ℤ PRICE_END
top_fits s ask start h is =
    let k = ask.phase - 1 in
    let f = few s k ask.eps h is.slackness in
    let w = span s ask.eps h (is_eps s ask start is) in
    let first = w.first in
    let most = w.most in
    let rise = pos (length s.problem) *ℤ (spread s +ℤ first_eps s) in
    let m : (pos k *ℤ rise) ≤ℤ (pos k *ℤ pos (MOST_PERSONS * span_step)) = times_more k rise (pos (MOST_PERSONS * span_step)) most in
    let p : pos k *ℤ pos (MOST_PERSONS * span_step) ≡ pos (k * (MOST_PERSONS * span_step)) = pos-*ℤ-pos k (MOST_PERSONS * span_step) in
    let low = is.start_low in
    omega (arith, ints)

-- no price is above the greatest
pub price_greatest : (p : List ℤ) (j : ℕ) → pos 0 ≤ℤ greatest_of p → price_of p j ≤ℤ greatest_of p
price_greatest p zero h = h
price_greatest p (suc k) h = at p k h (greatest_bounds p) where
  at : (p : List ℤ) (k : ℕ) → pos 0 ≤ℤ greatest_of p → All (λ x. x ≤ℤ greatest_of p) p → get_or p k (pos 0) ≤ℤ greatest_of p
  at p k h all = within p k (greatest_of p) h all where
    within : (xs : List ℤ) (k : ℕ) (g : ℤ) → pos 0 ≤ℤ g → All (λ x. x ≤ℤ g) xs → get_or xs k (pos 0) ≤ℤ g
    within [] k g h all = h
    within (x ∷ xs) zero g h all = all 0 x (omega arith)
    within (x ∷ xs) (suc k) g h all = within xs k g h (λ i d lt. all (suc i) d (omega arith))

-- the greatest is at most each bound of all
pub greatest_most : (p : List ℤ) (top : ℤ) → pos 0 ≤ℤ top → ((k : ℕ) → price_of p k ≤ℤ top) → greatest_of p ≤ℤ top
greatest_most p top h all = greatest_holds (λ x. x ≤ℤ top) p h (each p top (λ k. all (suc k))) where
  each : (p : List ℤ) (top : ℤ) → ((k : ℕ) → get_or p k (pos 0) ≤ℤ top) → All (λ x. x ≤ℤ top) p
  each [] top all k d lt = absurd (omega arith)
  each (x ∷ p) top all zero d lt = all 0
  each (x ∷ p) top all (suc k) d lt = each p top (λ i. all (suc i)) k d (omega arith)
