use Rattle.std.proofs.Common.{◌≡◌, [], length, rules, subst}
use Rattle.ranking_checker.specs.inside.Adding.{AddsFrom}
use Rattle.ranking_checker.specs.inside.Core.{pair_at}
use Rattle.ranking_checker.specs.inside.Trees.{CanHave}
use Rattle.ranking_checker.proofs.AddLaws.{none_yet, one_more}
use Rattle.ranking_checker.proofs.part.pairs_of.Goals as goal

pub loop-k-init : goal.loop-k-init
loop-k-init c = rw c.in_ok-pairs.ensures.items (none_yet (CanHave c.args.limits.now.kept.items c.args.limits.now.closed.items) (pair_at c.args.core.now) [])

pub loop-k-preserved : goal.loop-k-preserved
loop-k-preserved c =
    one_more (CanHave c.args.limits.now.kept.items c.args.limits.now.closed.items) (pair_at c.args.core.now) c.loop-k.k [] c.loop-k.pairs.items
    c.add_open.new.pairs.items c.loop-k.invariant c.in_ok-add_open.ensures

pub returns : goal.returns
returns c =
    let ended : c.loop-k.k ≡ length c.args.core.now = search rules in
    subst (λ k. AddsFrom (CanHave c.args.limits.now.kept.items c.args.limits.now.closed.items) (pair_at c.args.core.now) k [] c.loop-k.pairs.items) ended c.loop-k.invariant
