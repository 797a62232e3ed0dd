use Rattle.std.proofs.Common.{length, sym, subst}
use Rattle.std.specs.Prelude.{IfOk}
use Rattle.cost_lists.specs.ListedCosts.{ListedCosts}
use Rattle.c_wide.specs.Answers.{IsWideAnswer}
use Rattle.c_wide.specs.fewest.Answers.{IsFewestAnswer}
use Rattle.c_wide.specs.fewest.Changes.{combined_lists}
use Rattle.c_wide.specs.fewest.Combined.{AreCombined}
use Rattle.c_wide.proofs.fewest.answer.fewest_of.Goals as goal

pub answer_from-requires-clause-answer : goal.answer_from-requires-clause-answer
answer_from-requires-clause-answer c =
    let g = c.args.input.now in
    let kept = c.args.kept.now in
    let costs = subst (AreCombined c.args.shape.sense g kept (length g.costs)) (sym c.as_slice.ensures.value) c.in_ok-costs.ensures in
    subst (λ (l : ListedCosts). IsWideAnswer (combined_lists kept l) c.in_ok-answer.answer) (sym c.lists_of-lists.ensures.lists)
    (c.in_ok-answer.ensures kept c.requires.kept costs)

pub returns : goal.returns
returns c =
    subst (λ (l : ListedCosts). IfOk c.answer_from.result (IsFewestAnswer l c.args.kept.now)) c.lists_of-lists.ensures.lists c.answer_from.ensures
