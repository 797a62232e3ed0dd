-- Each verdict excludes the others.
use Rattle.std.proofs.Common.{◌≡◌, ℕ, ℤ, pos, zero, suc, List, [], length, nat_eq, All, IsSome, arith, ap, ◌∙◌, sym, refl, subst, inl, inr}
use Rattle.std.specs.List.{IsDistinct}
use Rattle.assign_core.specs.Rows.{Listing, listed_in}
use Rattle.assign_core.specs.Assignment.{AreListed, IsAssignment}
use Rattle.assign_core.proofs.Listed.{length_zip}
use Rattle.assign_core.proofs.NumberedLemmas.{All-numbered}
use Rattle.assign_core.proofs.Zips.{pair_number}
use Rattle.dual_checker.specs.Faults.{IsFirst, AreLong, IsUnlisted, IsGivenTwice}
use Rattle.dual_checker.proofs.Firsts.{firsts_agree}
use Rattle.dual_checker.proofs.Givings.{once_at_most}
use Rattle.cost_lists.specs.ListedCosts.{ListedCosts}
use Rattle.cost_lists.specs.Exact.{AreChoices, AreFree, IsOptimum, IsPriceInLimits}
use Rattle.exact_checker.specs.declared.verdict.Verdict.{Verdict}
use Rattle.exact_checker.specs.declared.verdict.Verdict.TheVariants.{Length, Unlisted, Twice, PriceRange, Slack, Overpriced, Yes}
use Rattle.exact_checker.specs.Faults.{IsBetterFor, IsOutOfRange, IsPricedUnowned}
use Rattle.exact_checker.specs.Verdicts.{IsVerdictIn, VerdictsDiffer}
use Rattle.exact_checker.proofs.Better.{choice_unbeaten}
use Rattle.exact_checker.proofs.Ranks.{Passes, same_rank}

-- the facts that the checker tests, in their order
abbrev Fact : (ℤ → Type 0) → ListedCosts → List ℕ → List ℤ → ℕ → Type 0
Fact InRange l xs prices zero = AreLong l.m l.rows xs prices
Fact InRange l xs prices (suc zero) = AreListed l.rows xs
Fact InRange l xs prices (suc (suc zero)) = IsDistinct nat_eq xs
Fact InRange l xs prices (suc (suc (suc zero))) = All InRange prices
Fact InRange l xs prices (suc (suc (suc (suc zero)))) = AreChoices l.sense prices l.rows xs
Fact InRange l xs prices (suc (suc (suc (suc (suc zero))))) = AreFree l.m prices xs
Fact InRange l xs prices (suc (suc (suc (suc (suc (suc k)))))) = ⊥

-- how many of them hold before one doesn't
abbrev rank : Verdict → ℕ
rank Length = 0
rank (Unlisted i) = 1
rank (Twice j) = 2
rank (PriceRange j) = 3
rank (Slack i k) = 4
rank (Overpriced j) = 5
rank Yes = 6

not_unlisted : (rows : List Listing) (xs : List ℕ) (i : ℕ) → IsFirst (IsUnlisted rows xs) (length rows) i → ¬ AreListed rows xs
not_unlisted rows xs i f h = f.here (pair_number (λ row j. IsSome (listed_in row j)) rows xs i [] 0 h f.number.first f.number.last)

not_twice : (xs : List ℕ) (n j : ℕ) → IsFirst (IsGivenTwice xs) n j → ¬ IsDistinct nat_eq xs
not_twice xs n j f h = let a = once_at_most xs j h in let b = f.here in omega arith

not_out : (InRange : ℤ → Type 0) (prices : List ℤ) (n j : ℕ) → length prices ≡ n → IsFirst (IsOutOfRange InRange prices) n j → ¬ All InRange prices
not_out InRange prices n j long f h = f.here (All-numbered InRange prices j (pos 0) h f.number.first (let b = f.number.last in omega arith))

not_overpriced : (m : ℕ) (prices : List ℤ) (xs : List ℕ) (j : ℕ) → IsFirst (IsPricedUnowned xs prices) m j → ¬ AreFree m prices xs
not_overpriced m prices xs j f h = elim (h j f.number) [ inl c ↦ f.here.0 c | inr z ↦ f.here.1 z ]

module _ (InRange : ℤ → Type 0) (IsRight : ListedCosts → List ℕ → List ℤ → Type 0) (l : ListedCosts) (xs : List ℕ) (prices : List ℤ)
    (parts : IsRight l xs prices → IsAssignment l.rows xs × (length prices ≡ l.m) × All InRange prices ×
    AreChoices l.sense prices l.rows xs × AreFree l.m prices xs) where
  fails : (v : Verdict) → IsVerdictIn InRange IsRight l xs prices v → ¬ Fact InRange l xs prices (rank v)
  fails Length h = h
  fails (Unlisted i) h = not_unlisted l.rows xs i h.1
  fails (Twice j) h = not_twice xs l.m j h.2
  fails (PriceRange j) h = not_out InRange prices l.m j h.0.prices_too h.2
  fails (Slack i k) h = λ choices. choice_unbeaten l xs prices i h.1.here.0 choices h.1.number h.1.here.1
  fails (Overpriced j) h = not_overpriced l.m prices xs j h.2
  fails Yes h = λ never. never

  passes : (v : Verdict) → IsVerdictIn InRange IsRight l xs prices v → Passes (Fact InRange l xs prices) (rank v)
  passes Length h = tt
  passes (Unlisted i) h = (tt, h.0)
  passes (Twice j) h = ((tt, h.0), h.1)
  passes (PriceRange j) h = (((tt, h.0), h.1.listed), h.1.apart)
  passes (Slack i k) h = ((((tt, h.0.long), h.0.assigned.listed), h.0.assigned.apart), h.0.in_range)
  passes (Overpriced j) h = (((((tt, h.0.long), h.0.assigned.listed), h.0.assigned.apart), h.0.in_range), h.1)
  passes Yes h =
      let p = parts h in
      let long : AreLong l.m l.rows xs prices = record { objects = sym (length_zip _ l.rows xs p.0.listed); prices_too = p.1 } in
      ((((((tt, long), p.0.listed), p.0.apart), p.2), p.3), p.4)

  ranks : (v w : Verdict) → IsVerdictIn InRange IsRight l xs prices v → IsVerdictIn InRange IsRight l xs prices w → rank v ≡ rank w
  ranks v w a b = same_rank (Fact InRange l xs prices) (rank v) (rank w) (passes v a) (passes w b) (fails v a) (fails w b)

  pub same_verdict : (v w : Verdict) → IsVerdictIn InRange IsRight l xs prices v → IsVerdictIn InRange IsRight l xs prices w → v ≡ w
  same_verdict Length Length a b = refl
  same_verdict (Unlisted i) (Unlisted j) a b = ap Unlisted (firsts_agree _ _ i j a.1 b.1)
  same_verdict (Twice i) (Twice j) a b = ap Twice (firsts_agree _ _ i j a.2 b.2)
  same_verdict (PriceRange i) (PriceRange j) a b = ap PriceRange (firsts_agree _ _ i j a.2 b.2)
  same_verdict (Slack i o) (Slack j k) a b =
      let e = firsts_agree _ _ i j a.1 b.1 in
      let f = firsts_agree (IsBetterFor l xs prices j) l.m o k (subst (λ q. IsFirst (IsBetterFor l xs prices q) l.m o) e a.2) b.2 in
      ap (λ q. Slack q o) e ∙ ap (λ q. Slack j q) f
  same_verdict (Overpriced i) (Overpriced j) a b = ap Overpriced (firsts_agree _ _ i j a.2 b.2)
  same_verdict Yes Yes a b = refl
  same_verdict v w a b = let e = ranks v w a b in absurd (omega arith)

pub verdicts_differ : VerdictsDiffer
verdicts_differ l xs prices v w a b =
    same_verdict IsPriceInLimits IsOptimum l xs prices (λ o. (o.assigned, o.priced, o.in_range, o.choices, o.free)) v w a b
