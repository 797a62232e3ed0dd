use Rattle.hungarian.proofs.Searches.{first_search}
use Rattle.hungarian.proofs.search.first_tree.Goals as goal

pub returns : goal.returns
returns c =
    let tree = c.in_ok-tree.tree in
    first_search c.args.lists.now c.args.plan.now c.args.person tree c.begin.new.tree c.persons.ensures.rule
    c.requires.plan c.requires.person c.requires.alone
    (rw c.objects.ensures.count at c.in_ok-tree.ensures.predecessors)
    (rw c.objects.ensures.count at c.in_ok-tree.ensures.ranks)
    (rw c.persons.ensures.count at c.in_ok-tree.ensures.to_persons) c.in_ok-tree.ensures.persons
    c.in_ok-begin.ensures.long c.in_ok-begin.ensures.relaxed c.in_ok-begin.ensures.ranks
    c.in_ok-begin.ensures.to_persons c.in_ok-begin.ensures.persons
