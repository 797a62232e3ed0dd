use Rattle.std.proofs.Common.{subst}
use Rattle.hall_refuter.specs.inside.Found.{IsMet}
use Rattle.hall_refuter.proofs.Growing.{grows_through, person_read, person_stays, listed_item, all_met, more_met}
use Rattle.hall_refuter.proofs.reach.visit.Goals as goal

pub returns-then-branch-clause-reach : goal.returns-then-branch-clause-reach
returns-then-branch-clause-reach c =
    let met = c.in_ok-meet.ensures in
    let here = person_stays _ _ _ _ c.args.next c.index.result.now c.loop-object.invariant.grows c.requires.next c.index.ensures in
    let listed = listed_item c.args.problem.now _ c.index.result.now.person c.row-object-items.result.now
    c.loop-object.object-index c.loop-object-item.result c.row-object-items.ensures.row here
    c.loop-object-test.true c.loop-object-item.is in
    met.reach c.args.problem.now c.loop-object.invariant.reach listed

pub returns-then-branch-clause-grows : goal.returns-then-branch-clause-grows
returns-then-branch-clause-grows c = let met = c.in_ok-meet.ensures in grows_through _ _ _ _ _ _ c.loop-object.invariant.grows met.grows

pub returns-then-branch-clause-visited : goal.returns-then-branch-clause-visited
returns-then-branch-clause-visited c =
    let met = c.in_ok-meet.ensures in
    let here = person_read c.args.reach.now.found.items c.args.next c.index.result.now c.requires.next c.index.ensures in
    let listed = listed_item c.args.problem.now _ c.index.result.now.person c.row-object-items.result.now
    c.loop-object.object-index c.loop-object-item.result c.row-object-items.ensures.row here
    c.loop-object-test.true c.loop-object-item.is in
    (listed, subst (IsMet c.args.owners.now c.meet.new.reach.met.items c.loop-object-item.result.0) c.if-branch.true met.met)

pub loop-object-preserved : goal.loop-object-preserved
loop-object-preserved c =
    let met = c.in_ok-meet.ensures in
    let here = person_stays _ _ _ _ c.args.next c.index.result.now c.loop-object.invariant.grows c.requires.next c.index.ensures in
    let listed = listed_item c.args.problem.now _ c.index.result.now.person c.row-object-items.result.now
    c.loop-object.object-index c.loop-object-item.result c.row-object-items.ensures.row here
    c.loop-object-test.true c.loop-object-item.is in
    let marked = subst (IsMet c.args.owners.now c.meet.new.reach.met.items c.loop-object-item.result.0) c.if-branch.false met.met in
    record {
      reach = met.reach c.args.problem.now c.loop-object.invariant.reach listed;
      grows = grows_through _ _ _ _ _ _ c.loop-object.invariant.grows met.grows;
      met =
          more_met c.row-object-items.result.now c.meet.new.reach.met.items c.loop-object.object-index c.loop-object-item.result
          (λ k d lt. met.grows.kept _ (c.loop-object.invariant.met k d lt)) c.loop-object-test.true c.loop-object-item.is marked;
    }

pub returns-clause-visited : goal.returns-clause-visited
returns-clause-visited c =
    let here = person_read c.args.reach.now.found.items c.args.next c.index.result.now c.requires.next c.index.ensures in
    all_met c.args.problem.now _ c.index.result.now.person c.row-object-items.result.now
    c.loop-object.reach.met.items c.loop-object.object-index c.row-object-items.ensures.row
    here c.loop-object-test.false c.loop-object.invariant.met
