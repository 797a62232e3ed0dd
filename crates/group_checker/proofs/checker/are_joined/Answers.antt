use Rattle.group_checker.proofs.Trees.{groups_shown}
use Rattle.group_checker.proofs.checker.are_joined.Goals as goal

pub returns : goal.returns
returns c =
    (λ yes. groups_shown c.args.lists.now c.args.plan c.args.given.roots.now c.args.given.towards c.args.given.from c.requires.plan
    (c.all_fall.ensures c.if-not-all_fall.false) (c.all_linked.ensures c.if-not-all_linked.false) (c.all_linked-2.ensures yes))
