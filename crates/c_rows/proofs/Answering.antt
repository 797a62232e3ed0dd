-- The answer of the tree on rows and a plan without a fault.
use Rattle.std.proofs.Common.{◌≡◌, true, false, sym, refl}
use Rattle.row_checker.specs.declared.verdict.Verdict.{Verdict}
use Rattle.row_checker.specs.declared.verdict.Verdict.TheVariants as verdict
use Rattle.row_checker.specs.Rows.{NoPlan}
use Rattle.row_checker.specs.Trees.{verdict_on}
use Rattle.c_rows.specs.declared.answer.Answer.{Answer}
use Rattle.c_rows.specs.declared.answer.Answer.TheVariants.{Shown, Costs, Not, Length, Start, CostRow, RowVariable, PlanNumber, Broken, Cost, Memory}
use Rattle.c_rows.specs.Answers.{IsAnswer, IsSoFar, all_rows, is_fault, tree_answer}
use Rattle.c_rows.specs.Input.{AreRows, InputRows}
use Rattle.c_rows.proofs.Cheaper.{costs_least}

pub plan_fault : (g : InputRows) (a : Answer) → AreRows g → IsSoFar g a → is_fault a ≡ true → IsAnswer g a
plan_fault g Shown are s e = absurd cc
plan_fault g (Costs cost) are s e = absurd cc
plan_fault g (Not fault) are s e = absurd cc
plan_fault g Length are s e = absurd cc
plan_fault g (Start k) are s e = absurd cc
plan_fault g CostRow are s e = absurd cc
plan_fault g (RowVariable k) are s e = absurd cc
plan_fault g (PlanNumber k) are s e = absurd cc
plan_fault g (Broken r) are s e = (are, s)
plan_fault g Cost are s e = (are, s)
plan_fault g Memory are s e = absurd cc

pub tree_is : (g : InputRows) (v : Verdict) (a : Answer) → AreRows g → IsSoFar g a → is_fault a ≡ false →
    v ≡ verdict_on g.n (all_rows g) g.tree → (v ≡ verdict.Shown → NoPlan g.n (all_rows g)) → IsAnswer g (tree_answer v a)
tree_is g (verdict.Not fault) a are s e is none = (are, (a, s, e), sym is)
tree_is g verdict.Shown Shown are s e is none = (are, s, record { verdict = sym is; none = none refl })
tree_is g verdict.Shown (Costs cost) are s e is none =
    (are, s, record { verdict = sym is; none = none refl }, costs_least g are s.0 (none refl))
tree_is g verdict.Shown (Not fault) are s e is none = absurd s.1
tree_is g verdict.Shown Length are s e is none = absurd s.1
tree_is g verdict.Shown (Start k) are s e is none = absurd s.1
tree_is g verdict.Shown CostRow are s e is none = absurd s.1
tree_is g verdict.Shown (RowVariable k) are s e is none = absurd s.1
tree_is g verdict.Shown (PlanNumber k) are s e is none = absurd s.1
tree_is g verdict.Shown (Broken r) are s e is none = absurd cc
tree_is g verdict.Shown Cost are s e is none = absurd cc
tree_is g verdict.Shown Memory are s e is none = absurd s.1
