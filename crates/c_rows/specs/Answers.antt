-- The answers on what a caller gives.
use Rattle.std.specs.Prelude.{◌≡◌, ℕ, ◌-◌, ◌<◌, ℤ, pos, ◌+ℤ◌, List, [], Option, None, Some, Bool, true, false, length}
use Rattle.std.specs.Int.{w64}
use Rattle.std.specs.Int.RustNames.{FitsSigned}
use Rattle.row_checker.specs.declared.verdict.Verdict.{Verdict}
use Rattle.row_checker.specs.declared.verdict.Verdict.TheVariants as verdict
use Rattle.row_checker.specs.Rows.{LinearRow, Meets, NoPlan, Plan, row_at, total}
use Rattle.row_checker.specs.Trees.{verdict_on}
use Rattle.c_rows.specs.declared.answer.Answer.{Answer}
use Rattle.c_rows.specs.declared.answer.Answer.TheVariants.{Shown, Costs, Not, Length, Start, CostRow, RowVariable, PlanNumber, Broken, Cost, Memory}
use Rattle.c_rows.specs.Costs.{CostAtLeast}
use Rattle.c_rows.specs.Lists.{IsFirstWrong, is_named, is_start, whole_at}
use Rattle.c_rows.specs.Input.{AreRows, InputRows, has_cost_row, have_lengths, plan_of, rows_in, rows_of}

-- the first of so many rows that the plan doesn't meet; none if it meets each
abbrev pub IsFirstBroken : Plan → List LinearRow → ℕ → Option ℕ → Type 0
IsFirstBroken plan rows count None = (r : ℕ) → r < count → Meets plan (row_at rows r)
IsFirstBroken plan rows count (Some r) =
    (r < count) × ¬ Meets plan (row_at rows r) × ((i : ℕ) → i < r → Meets plan (row_at rows i))

-- a sum that fits 64 bits, or none
abbrev pub IsCost : ℤ → Answer → Type 0
IsCost sum (Costs cost) = cost ≡ sum
IsCost sum Cost = ¬ FitsSigned w64 sum
IsCost sum answer = ⊥

-- all rows, and the last, that of the costs
abbrev pub all_rows : InputRows → List LinearRow
all_rows g = rows_of g (rows_in g)

abbrev pub cost_row : InputRows → LinearRow
cost_row g = row_at (all_rows g) (rows_in g - 1)

-- the rows but the last, and the upper bound of the last
abbrev pub other_rows : InputRows → List LinearRow
other_rows g = rows_of g (rows_in g - 1)

abbrev pub cost_bound : InputRows → ℤ
cost_bound g = whole_at g.most (rows_in g - 1)

-- the answer on a plan: the first row but the last that it doesn't meet, or its sum in the last
abbrev pub IsPlanAnswer : InputRows → Answer → Type 0
IsPlanAnswer g (Broken r) = IsFirstBroken (plan_of g.plan) (all_rows g) (rows_in g - 1) (Some r)
IsPlanAnswer g (Costs cost) =
    IsFirstBroken (plan_of g.plan) (all_rows g) (rows_in g - 1) None × (cost ≡ total (plan_of g.plan) (cost_row g).terms)
IsPlanAnswer g Cost =
    IsFirstBroken (plan_of g.plan) (all_rows g) (rows_in g - 1) None × ¬ FitsSigned w64 (total (plan_of g.plan) (cost_row g).terms)
IsPlanAnswer g answer = ⊥

-- the answer before the tree is read: that there is no plan, or the one on the plan
abbrev pub IsSoFar : InputRows → Answer → Type 0
IsSoFar g Shown = g.plan ≡ []
IsSoFar g answer = (0 < length g.plan) × IsPlanAnswer g answer

-- the plan has a fault
abbrev pub is_fault : Answer → Bool
is_fault Cost = true
is_fault (Broken r) = true
is_fault answer = false

-- the answer on the tree, where the plan has none
abbrev pub tree_answer : Verdict → Answer → Answer
tree_answer verdict.Shown answer = answer
tree_answer (verdict.Not fault) answer = Not fault

-- the tree shows that no plan meets the rows, and so it is
pub record IsShown (g : InputRows) : Type 0 where
  pub verdict : verdict_on g.n (all_rows g) g.tree ≡ verdict.Shown
  pub none : NoPlan g.n (all_rows g)

-- a plan isn't given, or it has no fault
abbrev pub IsReady : InputRows → Type 0
IsReady g = (answer : Answer) × IsSoFar g answer × (is_fault answer ≡ false)

-- the first of the answers that applies. With a plan no other that meets the rows but the last costs
-- less than the last one's upper bound and 1. Memory was refused: nothing is wrong with the lists
abbrev pub IsAnswer : InputRows → Answer → Type 0
IsAnswer g Length = have_lengths g ≡ false
IsAnswer g (Start k) =
    (have_lengths g ≡ true) × IsFirstWrong (λ i. is_start g.starts (length g.variables) i) (length g.starts) (Some k)
IsAnswer g CostRow =
    (have_lengths g ≡ true) × IsFirstWrong (λ i. is_start g.starts (length g.variables) i) (length g.starts) None
    × (has_cost_row g ≡ false)
IsAnswer g (RowVariable k) =
    (have_lengths g ≡ true) × IsFirstWrong (λ i. is_start g.starts (length g.variables) i) (length g.starts) None
    × (has_cost_row g ≡ true)
    × IsFirstWrong (λ i. is_named g.variables g.n i) (length g.variables) (Some k)
IsAnswer g (PlanNumber k) =
    (have_lengths g ≡ true) × IsFirstWrong (λ i. is_start g.starts (length g.variables) i) (length g.starts) None
    × (has_cost_row g ≡ true)
    × IsFirstWrong (λ i. is_named g.variables g.n i) (length g.variables) None
    × IsFirstWrong (λ i. is_named g.plan 2 i) (length g.plan) (Some k)
IsAnswer g (Broken r) = AreRows g × IsSoFar g (Broken r)
IsAnswer g Cost = AreRows g × IsSoFar g Cost
IsAnswer g (Not fault) = AreRows g × IsReady g × (verdict_on g.n (all_rows g) g.tree ≡ verdict.Not fault)
IsAnswer g Shown = AreRows g × (g.plan ≡ []) × IsShown g
IsAnswer g (Costs cost) =
    AreRows g × IsSoFar g (Costs cost) × IsShown g
    × CostAtLeast (cost_bound g +ℤ pos 1) g.n (other_rows g) (cost_row g).terms
IsAnswer g Memory = AreRows g
