-- Runs end once.
use Rattle.std.proofs.Common.{◌≡◌, ℕ, zero, suc, ◌≤◌, ◌⊎◌, inl, inr, refl, ap, sym, ◌∙◌, subst, arith}
use Rattle.scaled_values.specs.Scaled.{ScaledProblem}
use Rattle.rounds.specs.Plain.{Plain, End, Goes, Ends, and_then, next_round, run}

pub run-zero : (s : ScaledProblem) (b : Plain) → run s 0 b ≡ Goes b
unfolding run
run-zero s b = refl

pub run-suc : (s : ScaledProblem) (m : ℕ) (b : Plain) → run s (suc m) b ≡ and_then (run s m b) (next_round s)
unfolding run
run-suc s m b = refl

-- one round more of a run that goes on
pub run-goes : (s : ScaledProblem) (m : ℕ) (start b : Plain) → run s m start ≡ Goes b → run s (suc m) start ≡ next_round s b
run-goes s m start b e = run-suc s m start ∙ ap (λ p. and_then p (next_round s)) e

at_most : (m k : ℕ) → m ≤ suc k → (m ≡ suc k) ⊎ (m ≤ k)
at_most m k h = grind arith

either : (m k : ℕ) → (m ≤ k) ⊎ (k ≤ m)
either m k = grind arith

same_end : (e f : End) → Ends e ≡ Ends f → e ≡ f
same_end e f h = cc

-- a run that has ended stays as it is
pub stays : (s : ScaledProblem) (start : Plain) (m k : ℕ) (end : End) → m ≤ k → run s m start ≡ Ends end → run s k start ≡ Ends end
stays s start m zero end le h = let z : m ≡ 0 = omega arith in subst (λ n. run s n start ≡ Ends end) z h
stays s start m (suc k) end le h = elim (at_most m k le) [
  | inl same ↦ subst (λ n. run s n start ≡ Ends end) same h
  | inr less ↦ run-suc s k start ∙ ap (λ p. and_then p (next_round s)) (stays s start m k end less h)
]

pub once : (s : ScaledProblem) (start : Plain) (m k : ℕ) (first second : End) → run s m start ≡ Ends first → run s k start ≡ Ends second → first ≡ second
once s start m k first second a b = elim (either m k) [
  | inl le ↦ same_end first second (sym (stays s start m k first le a) ∙ b)
  | inr le ↦ same_end first second (sym a ∙ stays s start k m second le b)
]
