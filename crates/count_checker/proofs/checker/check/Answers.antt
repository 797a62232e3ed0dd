use Rattle.std.proofs.Common.{◌≡◌, List, Bool, ℤ, sym, subst, ◌∙◌}
use Rattle.std.specs.Prelude.{Result, Ok, Err, IfOk}
use Rattle.count_checker.specs.declared.lists.CountLists.{CountLists}
use Rattle.count_checker.specs.CountFaults.{AreLongCounts, HaveLengths, IsCountVerdict}
use Rattle.count_checker.specs.CountLists.{AreCountLists, problem_in}
use Rattle.count_checker.proofs.VerdictLaws.{long_pairs, yes_best, yes_iff}
use Rattle.count_checker.proofs.checker.check.Goals as goal

if_ok : {A E : Type 0} (o : Result A E) (P Q : A → Type 0) → ((v : A) → P v → Q v) → IfOk o P → IfOk o Q
if_ok (Ok v) P Q h p = h v p
if_ok (Err e) P Q h p = p

have_lengths : (l k : CountLists) → AreCountLists l → k ≡ l → (plan : List Bool) (r v : List ℤ) → AreLongCounts (problem_in l) plan r v → HaveLengths k plan r v
have_lengths l k lists e plan r v long = subst (λ x. HaveLengths x plan r v) (sym e)
    (record { plan_long = long.plan_long ∙ long_pairs l lists; rows_long = long.rows_long; columns_long = long.columns_long })

pub returns-then-not-are_long-clause-verdict : goal.returns-then-not-are_long-clause-verdict
returns-then-not-are_long-clause-verdict c = λ long.
    let is = c.are_long.ensures.1 (have_lengths c.args.problem.now c.lists-lists.result c.lists-lists.ensures.rule c.lists-lists.ensures.lists c.args.plan.now c.args.row_prices.now c.args.column_prices.now long) in
    let not = c.if-not-are_long.true in
    absurd (cc)

pub returns-then-not-are_long-clause-yes : goal.returns-then-not-are_long-clause-yes
returns-then-not-are_long-clause-yes c = yes_iff c.args.problem.now c.lists-lists.ensures.rule c.args.plan.now c.args.row_prices.now c.args.column_prices.now _ (returns-then-not-are_long-clause-verdict c)

pub returns-clause-verdict : goal.returns-clause-verdict
returns-clause-verdict c =
    subst (λ l. IfOk c.first_fault.result (λ v. IsCountVerdict l c.args.plan.now c.args.row_prices.now c.args.column_prices.now v)) c.lists-lists.ensures.lists c.first_fault.ensures

pub returns-clause-yes : goal.returns-clause-yes
returns-clause-yes c = if_ok c.first_fault.result _ _ (yes_iff c.args.problem.now c.lists-lists.ensures.rule c.args.plan.now c.args.row_prices.now c.args.column_prices.now) (returns-clause-verdict c)

pub returns-clause-best : goal.returns-clause-best
returns-clause-best c = if_ok c.first_fault.result _ _ (yes_best c.args.problem.now c.lists-lists.ensures.rule c.args.plan.now c.args.row_prices.now c.args.column_prices.now) (returns-clause-verdict c)
