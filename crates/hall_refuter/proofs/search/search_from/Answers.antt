use Rattle.std.proofs.Common.{arith, ◌∙◌, ◌≡◌, ◌<◌, length, subst, ap}
use Rattle.hall_refuter.specs.inside.Found.{person_at, Climbs, IsVisited}
use Rattle.hall_refuter.proofs.Searching.{begun_as, walked_more, person_within, all_within, hall_answer, path_answer}
use Rattle.hall_refuter.proofs.search.search_from.Goals as goal

pub loop-next-init : goal.loop-next-init
loop-next-init c =
    let begin = c.in_ok-reach.ensures in
    let found = begin.found in
    record {
      reach = begun_as c.args.problem.now c.args.owners.now c.args.person c.n.result _ _ found begin.met c.n.ensures.count;
      first = ap (λ f. person_at f 0) found;
      walked = λ t j lt. absurd (omega arith);
      within = omega arith;
    }

pub visit-requires-clause-person : goal.visit-requires-clause-person
visit-requires-clause-person c =
    let i = c.loop-next.invariant in
    let lt : c.loop-next.next < length c.loop-next.reach.found.items = omega arith in
    person_within c.args.problem.now c.args.owners.now _ _ c.args.person c.loop-next.next i.reach c.requires.matching i.first c.requires.person lt

pub loop-next-preserved : goal.loop-next-preserved
loop-next-preserved c =
    let i = c.loop-next.invariant in
    let v = c.in_ok-object.ensures in
    let longer = v.grows.longer in
    let lt : c.loop-next.next < length c.loop-next.reach.found.items = omega arith in
    let visited = subst (IsVisited c.args.problem.now c.args.owners.now c.visit.new.reach.met.items
    (person_at c.loop-next.reach.found.items c.loop-next.next)) c.in_default.is v.visited in
    record {
      reach = v.reach;
      first = v.grows.same 0 (omega arith) ∙ i.first;
      walked = walked_more c.args.problem.now c.loop-next.reach.found.items c.visit.new.reach.found.items
          c.loop-next.reach.met.items c.visit.new.reach.met.items c.loop-next.next i.walked lt v.grows visited;
      within = omega arith;
    }

pub hall_set-requires-clause-within : goal.hall_set-requires-clause-within
hall_set-requires-clause-within c =
    let i = c.loop-next.invariant in
    all_within c.args.problem.now c.args.owners.now _ _ c.args.person i.reach c.requires.matching i.first c.requires.person

pub returns-in-Some : goal.returns-in-Some
returns-in-Some c =
    let i = c.loop-next.invariant in
    let v = c.in_ok-object.ensures in
    let lt : c.loop-next.next < length c.loop-next.reach.found.items = omega arith in
    let visited = subst (IsVisited c.args.problem.now c.args.owners.now c.visit.new.reach.met.items
    (person_at c.loop-next.reach.found.items c.loop-next.next)) c.in-Some.is v.visited in
    let way = c.in_ok-path.ensures in
    let climbs = subst (λ s. Climbs s c.loop-next.next way.0) c.as_slice.ensures.value way.1 in
    path_answer c.args.problem.now c.args.owners.now c.loop-next.reach.found.items c.visit.new.reach.found.items
    c.loop-next.reach.met.items c.visit.new.reach.met.items c.args.person c.loop-next.next c.in-Some.object
    c.in_ok-path.path.items v.reach v.grows i.first lt visited (way.0, climbs, way.2)

pub returns : goal.returns
returns c =
    let i = c.loop-next.invariant in
    let lists = c.in_ok-hall_set.ensures in
    let all : c.loop-next.next ≡ length c.loop-next.reach.found.items = omega arith in
    hall_answer c.args.problem.now c.args.owners.now c.loop-next.reach.found.items c.loop-next.reach.met.items
    c.args.person c.loop-next.next c.in_ok-hall_set.field-0
    i.reach c.requires.matching i.first c.requires.person c.requires.alone i.walked all
    (record { persons_rise = lists.persons_rise; objects_rise = lists.objects_rise; each_person = lists.persons; each_object = lists.objects })
