use Rattle.std.proofs.Common.{sym, ◌∙◌}
use mathlib.Core.Bool.{true≢false}
use Rattle.ranking_checker.specs.inside.Trees.{CanHave}
use Rattle.ranking_checker.proofs.AddLaws.{add_none, add_one}
use Rattle.ranking_checker.proofs.part.add_open.Goals as goal

pub returns-in_ok-push : goal.returns-in_ok-push
returns-in_ok-push c =
    rw c.in_ok-push.ensures.items (add_one (CanHave c.args.limits.now.kept.items c.args.limits.now.closed.items) c.args.pair c.args.pairs.now.items)

pub returns-else-may_have : goal.returns-else-may_have
returns-else-may_have c =
    add_none (CanHave c.args.limits.now.kept.items c.args.limits.now.closed.items) c.args.pair c.args.pairs.now.items
    (λ keep. true≢false (sym (c.may_have.ensures keep) ∙ c.if-may_have.false))
