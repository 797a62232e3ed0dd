-- The slacknesses of the phases: in range, and few.
use Rattle.std.proofs.Common.{◌≡◌, ℕ, zero, suc, ℤ, pos, negsuc, ◌+ℤ◌, ◌≤ℤ◌, ◌<◌, ◌≤◌, ◌+◌, ◌-◌, inl, inr, Bool}
use Rattle.std.proofs.Common.{true, false, cond, Option, None, Some, refl, arith, sym, ◌∙◌, ap, subst}
use Rattle.std.specs.Option.{option_and_then}
use Rattle.std.specs.Cmp.{signed_Decides}
use Rattle.std.specs.Ordering.{int_eq}
use Rattle.std.proofs.lemmas.Int.{ints, clamps}
use Rattle.std.proofs.lemmas.Bool.{false_from_ne_true}
use Rattle.std.proofs.lemmas.Bool.Decides.{leb_tells}
use Rattle.assign_core.specs.Rows.{IsProblem}
use Rattle.scaled_values.specs.Scaled.{ScaledProblem, spread, fifth, first_eps, next_eps, eps_after, IsEps}
use Rattle.scaled_values.specs.Limits.{most_spread, most_step}
use Rattle.scaled_values.proofs.BenefitRange.{IsSpread, IsSpread-spread}

pub fifth-least : (z : ℤ) → pos 1 ≤ℤ fifth z
fifth-least z = omega (arith, ints, clamps)

-- fifths keep the order of numbers
fifth-le-fifth : (y z : ℤ) → y ≤ℤ z → fifth y ≤ℤ fifth z
fifth-le-fifth (pos a) (pos b) h = omega (arith, ints, clamps)
fifth-le-fifth (pos a) (negsuc b) h = omega (arith, ints, clamps)
fifth-le-fifth (negsuc a) (pos b) h = omega (arith, ints, clamps)
fifth-le-fifth (negsuc a) (negsuc b) h = omega (arith, ints, clamps)

fifth-le : (z : ℤ) → pos 1 ≤ℤ z → fifth z ≤ℤ z
fifth-le (pos a) h = omega (arith, ints, clamps)
fifth-le (negsuc a) h = omega (arith, ints, clamps)

some_of : (t : Bool) (z eps : ℤ) → cond t None (Some z) ≡ Some eps → z ≡ eps
some_of true z eps h = cc
some_of false z eps h = cc

-- a slackness and the one before it
record IsAfter (before : Option ℤ) (eps : ℤ) : Type 0 where
  pub last : ℤ
  pub was : before ≡ Some last
  pub fifth_of : fifth last ≡ eps

after_is : (o : Option ℤ) (eps : ℤ) → option_and_then next_eps o ≡ Some eps → IsAfter o eps
after_is None eps h = cc
after_is (Some last) eps h = record { last = last; was = refl; fifth_of = some_of (int_eq last (pos 1)) (fifth last) eps h }

-- every slackness is from 1 to the first
pub record IsEpsRange (s : ScaledProblem) (eps : ℤ) : Type 0 where
  pub least : pos 1 ≤ℤ eps
  pub greatest : eps ≤ℤ first_eps s

range_after : (s : ScaledProblem) (k : ℕ) (eps : ℤ) → eps_after s k ≡ Some eps → IsEpsRange s eps
range_after s zero eps h =
    let e : first_eps s ≡ eps = cc in
    let l = fifth-least (spread s) in
    subst (IsEpsRange s) e (record { least = l; greatest = omega (arith, ints) })
range_after s (suc k) eps h =
    let a = after_is (eps_after s k) eps h in
    let r = range_after s k a.last a.was in
    let l = fifth-least a.last in
    let g = fifth-le a.last r.least in
    subst (IsEpsRange s) a.fifth_of (record { least = l; greatest = let x = r.greatest in omega (arith, ints) })

pub range_of_eps : (s : ScaledProblem) (eps : ℤ) → IsEps s eps → IsEpsRange s eps
range_of_eps s eps h = range_after s h.phases eps h.at

-- the slacknesses of the widest problem
abbrev bound : ℕ → ℤ
bound zero = fifth most_spread
bound (suc k) = fifth (bound k)

pub first_eps-below : (s : ScaledProblem) → IsProblem s.problem → first_eps s ≤ℤ fifth most_spread
first_eps-below s h = fifth-le-fifth (spread s) most_spread (IsSpread-spread s h).greatest

below_bound : (s : ScaledProblem) → IsProblem s.problem → (k : ℕ) (eps : ℤ) → eps_after s k ≡ Some eps → eps ≤ℤ bound k
below_bound s h zero eps e = let same : first_eps s ≡ eps = cc in let b = first_eps-below s h in omega (arith, ints)
below_bound s h (suc k) eps e =
    let a = after_is (eps_after s k) eps e in
    subst (λ z. z ≤ℤ bound (suc k)) a.fifth_of (fifth-le-fifth a.last (bound k) (below_bound s h k a.last a.was))

none_after : (o : Option ℤ) → ((eps : ℤ) → o ≡ Some eps → eps ≡ pos 1) → option_and_then next_eps o ≡ None
none_after None h = refl
none_after (Some eps) h = rw (h eps refl) refl

-- the phases are over after 23
over : (s : ScaledProblem) → IsProblem s.problem → (m : ℕ) → eps_after s (m + 23) ≡ None
over s h zero = none_after (eps_after s 22) (λ eps e.
    let high : eps ≤ℤ bound 22 = below_bound s h 22 eps e in
    let low = (range_after s 22 eps e).least in
    let one : bound 22 ≡ pos 1 = refl in
    omega (arith, ints))
over s h (suc m) =
    let next : suc m + 23 ≡ suc (m + 23) = omega arith in
    ap (eps_after s) next ∙ ap (option_and_then next_eps) (over s h m)

-- there are at most 23 phases
pub few : (s : ScaledProblem) (k : ℕ) (eps : ℤ) → IsProblem s.problem → eps_after s k ≡ Some eps → k < 23
few s k eps h e = elim (leb_tells 23 k) [
  | inl le ↦
      let ge : 23 ≤ k = le.1 in
      let at : k ≡ (k - 23) + 23 = omega arith in
      let none : eps_after s k ≡ None = ap (eps_after s) at ∙ over s h (k - 23) in
      cc
  | inr lt ↦ lt.1
]

-- the spread with a slackness is one step
pub record IsStep (step : ℤ) : Type 0 where
  pub least : pos 0 ≤ℤ step
  pub greatest : step ≤ℤ most_step

pub IsStep-spread : (s : ScaledProblem) (eps : ℤ) → IsSpread (spread s) → IsEps s eps → IsStep (spread s +ℤ eps)
IsStep-spread s eps d e =
    let r = range_of_eps s eps e in
    let f = fifth-le-fifth (spread s) most_spread d.greatest in
    record { least = omega (arith, ints); greatest = omega (arith, ints) }

-- the list begins with the first slackness, and goes on
pub IsEps-first : (s : ScaledProblem) (eps : ℤ) → eps ≡ first_eps s → IsEps s eps
IsEps-first s eps e = record { phases = 0; at = ap Some (sym e) }

pub IsEps-next : (s : ScaledProblem) (eps next : ℤ) → IsEps s eps → next_eps eps ≡ Some next → IsEps s next
IsEps-next s eps next h e = record { phases = suc h.phases; at = ap (option_and_then next_eps) h.at ∙ e }

-- the slackness after one that isn't 1
pub next_is : (eps : ℤ) → (eps ≡ pos 1 → ⊥) → next_eps eps ≡ Some (fifth eps)
next_is eps other =
    let differs : int_eq eps (pos 1) ≡ false = false_from_ne_true (int_eq eps (pos 1)) (λ e. other ((signed_Decides eps (pos 1)).0 e)) in
    ap (λ b. cond b None (Some (fifth eps))) differs

true_where_none : (t : Bool) (z : ℤ) → cond t None (Some z) ≡ None → t ≡ true
true_where_none true z h = refl
true_where_none false z h = cc

-- only 1 has no slackness after it
one_at_last : (eps : ℤ) → next_eps eps ≡ None → eps ≡ pos 1
one_at_last eps h = (signed_Decides eps (pos 1)).0 (true_where_none (int_eq eps (pos 1)) (fifth eps) h)

one_at : (s : ScaledProblem) (k : ℕ) (o : Option ℤ) → eps_after s k ≡ o → option_and_then next_eps o ≡ None →
    (eps_after s k ≡ None → IsEps s (pos 1)) → IsEps s (pos 1)
one_at s k None e h before = before e
one_at s k (Some eps) e h before = record { phases = k; at = e ∙ ap Some (one_at_last eps h) }

one_before : (s : ScaledProblem) (k : ℕ) → eps_after s k ≡ None → IsEps s (pos 1)
one_before s zero h = cc
one_before s (suc k) h = one_at s k (eps_after s k) refl h (one_before s k)

-- the last slackness is 1
pub one_is_listed : (s : ScaledProblem) → IsProblem s.problem → IsEps s (pos 1)
one_is_listed s h = one_before s 23 (over s h 0)
