-- What is listed with benefits is listed with costs.
use Rattle.std.proofs.Common.{ℕ, length, IsSome, sym, subst}
use Rattle.assign_core.specs.Rows.{IsListed, listed_in, row_of}
use Rattle.assign_core.proofs.BenefitRows.{cost_listed, row_of-benefits}
use Rattle.assign_core.proofs.Duality.{benefit_listed}
use Rattle.scaled_values.specs.Scaled.{ScaledProblem, benefits_of}

pub listed_problem : (s : ScaledProblem) (i j : ℕ) → IsListed (benefits_of s) i j → IsListed s.problem i j
listed_problem s i j h = cost_listed s.sense (length s.problem) (row_of s.problem i) j
    (subst (λ row. IsSome (listed_in row j)) (row_of-benefits s.sense (length s.problem) s.problem i) h)

pub listed_benefits : (s : ScaledProblem) (i j : ℕ) → IsListed s.problem i j → IsListed (benefits_of s) i j
listed_benefits s i j h = subst (λ row. IsSome (listed_in row j))
    (sym (row_of-benefits s.sense (length s.problem) s.problem i)) (benefit_listed s.sense (length s.problem)
    (row_of s.problem i) j h)
