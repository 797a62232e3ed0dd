use Rattle.std.proofs.Common.{◌≡◌, ◌-◌, arith, length, subst}
use Rattle.hungarian.specs.inside.Stored.{IsAssignedTo}
use Rattle.hungarian.proofs.Assigned.{finished}
use Rattle.hungarian.proofs.solver.solve.Goals as goal

pub returns : goal.returns
returns c =
    let lists = c.args.lists.now in
    let loop = c.loop-person in
    let all : loop.person - 1 ≡ length lists.rows =
    (let count = c.persons-person-end.ensures.count in let past = c.loop-person-test.false in
    let end = loop.auto.person-end in omega arith)
    in
    finished lists loop.plan c.in_ok-best.best.objects.items c.in_ok-best.best.prices.items c.objects.ensures.rule
    loop.invariant.planned
    (subst (λ k. IsAssignedTo k loop.plan.objects.items) all loop.invariant.assigned) c.in_ok-best.ensures.objects
    c.in_ok-best.ensures.prices
