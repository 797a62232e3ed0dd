use Rattle.std.proofs.Common.{subst}
use Rattle.std.specs.Prelude.{Result, Ok, Err, IfOk}
use Rattle.count_checker.specs.CountLists.{problem_in}
use Rattle.count_checker.specs.Shortages.{IsShortageVerdict}
use Rattle.count_checker.proofs.Lacking.{verdict_none}
use Rattle.count_checker.proofs.shortage.check_shortage.Goals as goal

if_ok : {A E : Type 0} (o : Result A E) (P Q : A → Type 0) → ((v : A) → P v → Q v) → IfOk o P → IfOk o Q
if_ok (Ok v) P Q h p = h v p
if_ok (Err e) P Q h p = p

pub returns-clause-none : goal.returns-clause-none
returns-clause-none c =
    let there = subst (λ l. IfOk c.judge_marks.result (λ v. IsShortageVerdict (problem_in l) c.args.side c.args.rows.now c.args.columns.now v)) c.lists-lists.ensures.lists c.judge_marks.ensures in
    if_ok c.judge_marks.result _ _ (verdict_none c.args.problem.now c.lists-lists.ensures.rule c.args.side c.args.rows.now c.args.columns.now) there
