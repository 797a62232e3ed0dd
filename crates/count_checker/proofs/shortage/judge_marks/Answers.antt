use Rattle.std.proofs.Common.{◌∙◌, sym, arith}
use borrow.Author.Tests.{ltb-true, ltb-false}
use Rattle.count_checker.specs.CountLists.{problem_in}
use Rattle.count_checker.proofs.Lacking.{short_means, shortage_means}
use Rattle.count_checker.proofs.shortage.judge_marks.Goals as goal

pub returns-then-is_short : goal.returns-then-is_short
returns-then-is_short c =
    let p = problem_in c.args.lists in
    let e = sym c.is_short.ensures ∙ c.if-is_short.true in
    (c.requires.long, short_means p c.args.side c.args.rows.now c.args.columns.now c.in_ok-apart.apart c.in_ok-apart.ensures.count (ltb-true _ _ e))

pub returns-else-is_short : goal.returns-else-is_short
returns-else-is_short c =
    let p = problem_in c.args.lists in
    let e = sym c.is_short.ensures ∙ c.if-is_short.false in
    let ge = ltb-false _ _ e in
    (c.requires.long, λ h. let lt = shortage_means p c.args.side c.args.rows.now c.args.columns.now c.in_ok-apart.apart c.in_ok-apart.ensures.count h in omega arith)
