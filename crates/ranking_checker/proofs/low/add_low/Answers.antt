use Rattle.std.proofs.Common.{sym, ◌∙◌}
use mathlib.Core.Bool.{true≢false}
use Rattle.std.proofs.lemmas.Int.{to_z-of_z}
use Rattle.ranking_checker.specs.inside.Bases.{IsLow}
use Rattle.ranking_checker.specs.inside.Core.{pair}
use Rattle.ranking_checker.proofs.AddLaws.{add_none, add_one}
use Rattle.ranking_checker.proofs.low.add_low.Goals as goal

pub returns-in_ok-push : goal.returns-in_ok-push
returns-in_ok-push c =
    let f = c.ranges.cost in
    let is = simp to_z-of_z at c.in_ok-push.ensures.items in
    rw is (add_one (IsLow c.args.base) (pair c.args.person c.args.object c.args.cost) c.args.pairs.now.items)

pub returns-else-is_low : goal.returns-else-is_low
returns-else-is_low c =
    let f = c.ranges.cost in
    let low = simp to_z-of_z at c.is_low.ensures in
    add_none (IsLow c.args.base) (pair c.args.person c.args.object c.args.cost) c.args.pairs.now.items (λ keep. true≢false (sym (low.1 keep) ∙ c.if-is_low.false))
