-- At most one verdict holds of a plan and numbers.
use Rattle.std.proofs.Common.{◌≡◌, ℕ, inl, inr, refl, ap, sym, arith}
use Rattle.std.proofs.lemmas.Bool.{cases_lt}
use Rattle.dual_checker.specs.Faults.{IsFirst}
use Rattle.count_checker.specs.declared.verdict.CountVerdict.TheVariants.{Yes, Length, Twice, Row, Column, Pair}
use Rattle.count_checker.specs.CountFaults.{CountVerdictsDiffer, IsFirstPlace}
use Rattle.count_checker.proofs.VerdictLaws.{yes_iff}

one_place : (F : ℕ → Type 0) (n i k : ℕ) → IsFirstPlace F n i → IsFirstPlace F n k → i ≡ k
one_place F n i k a b = elim (cases_lt i k) [
  | inl lt ↦ absurd (b.none_before i lt a.here)
  | inr ge ↦ elim (cases_lt k i) [
    | inl lt ↦ absurd (a.none_before k lt b.here)
    | inr le ↦ omega arith
  ]
]

one_number : (F : ℕ → Type 0) (n i k : ℕ) → IsFirst F n i → IsFirst F n k → i ≡ k
one_number F n i k a b = elim (cases_lt i k) [
  | inl lt ↦ absurd (b.none_below i a.number.first lt a.here)
  | inr ge ↦ elim (cases_lt k i) [
    | inl lt ↦ absurd (a.none_below k b.number.first lt b.here)
    | inr le ↦ omega arith
  ]
]

pub verdicts_differ : CountVerdictsDiffer
verdicts_differ l plan r v Yes Yes is a b = refl
verdicts_differ l plan r v Yes Length is a b = sym ((yes_iff l is plan r v Length b).1 a)
verdicts_differ l plan r v Yes (Twice k) is a b = sym ((yes_iff l is plan r v (Twice k) b).1 a)
verdicts_differ l plan r v Yes (Row k) is a b = sym ((yes_iff l is plan r v (Row k) b).1 a)
verdicts_differ l plan r v Yes (Column k) is a b = sym ((yes_iff l is plan r v (Column k) b).1 a)
verdicts_differ l plan r v Yes (Pair k) is a b = sym ((yes_iff l is plan r v (Pair k) b).1 a)
verdicts_differ l plan r v Length Yes is a b = (yes_iff l is plan r v Length a).1 b
verdicts_differ l plan r v (Twice k) Yes is a b = (yes_iff l is plan r v (Twice k) a).1 b
verdicts_differ l plan r v (Row k) Yes is a b = (yes_iff l is plan r v (Row k) a).1 b
verdicts_differ l plan r v (Column k) Yes is a b = (yes_iff l is plan r v (Column k) a).1 b
verdicts_differ l plan r v (Pair k) Yes is a b = (yes_iff l is plan r v (Pair k) a).1 b
verdicts_differ l plan r v Length Length is a b = refl
verdicts_differ l plan r v Length (Twice k) is a b = absurd (a b.0)
verdicts_differ l plan r v Length (Row k) is a b = absurd (a b.0)
verdicts_differ l plan r v Length (Column k) is a b = absurd (a b.0)
verdicts_differ l plan r v Length (Pair k) is a b = absurd (a b.0)
verdicts_differ l plan r v (Twice k) Length is a b = absurd (b a.0)
verdicts_differ l plan r v (Row k) Length is a b = absurd (b a.0)
verdicts_differ l plan r v (Column k) Length is a b = absurd (b a.0)
verdicts_differ l plan r v (Pair k) Length is a b = absurd (b a.0)
verdicts_differ l plan r v (Twice i) (Twice k) is a b = ap Twice (one_place _ _ i k a.1 b.1)
verdicts_differ l plan r v (Twice i) (Row k) is a b = absurd (b.1 i a.1.below a.1.here)
verdicts_differ l plan r v (Twice i) (Column k) is a b = absurd (b.1 i a.1.below a.1.here)
verdicts_differ l plan r v (Twice i) (Pair k) is a b = absurd (b.1 i a.1.below a.1.here)
verdicts_differ l plan r v (Row i) (Twice k) is a b = absurd (a.1 k b.1.below b.1.here)
verdicts_differ l plan r v (Column i) (Twice k) is a b = absurd (a.1 k b.1.below b.1.here)
verdicts_differ l plan r v (Pair i) (Twice k) is a b = absurd (a.1 k b.1.below b.1.here)
verdicts_differ l plan r v (Row i) (Row k) is a b = ap Row (one_number _ _ i k a.2 b.2)
verdicts_differ l plan r v (Row i) (Column k) is a b = absurd (a.2.here (b.2 i a.2.number))
verdicts_differ l plan r v (Row i) (Pair k) is a b = absurd (a.2.here (b.2 i a.2.number))
verdicts_differ l plan r v (Column i) (Row k) is a b = absurd (b.2.here (a.2 k b.2.number))
verdicts_differ l plan r v (Pair i) (Row k) is a b = absurd (b.2.here (a.2 k b.2.number))
verdicts_differ l plan r v (Column i) (Column k) is a b = ap Column (one_number _ _ i k a.3 b.3)
verdicts_differ l plan r v (Column i) (Pair k) is a b = absurd (a.3.here (b.3 i a.3.number))
verdicts_differ l plan r v (Pair i) (Column k) is a b = absurd (b.3.here (a.3 k b.3.number))
verdicts_differ l plan r v (Pair i) (Pair k) is a b = ap Pair (one_place _ _ i k a.4 b.4)
