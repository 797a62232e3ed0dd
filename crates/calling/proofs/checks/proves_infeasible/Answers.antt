use Rattle.std.proofs.Common.{◌↔◌, IsTrue, List, rules}
use Rattle.assign_core.specs.Hall.{IsHallSet}
use Rattle.assign_core.specs.Rows.{Listing}
use Rattle.calling.proofs.Texts.{of_sparse}
use Rattle.calling.proofs.checks.proves_infeasible.Goals as goal

pub returns-clause-yes : goal.returns-clause-yes
returns-clause-yes g c =
    let persons = c.args.persons.now in
    let objects = c.args.objects.now in
    let exact : IsTrue c.eq.result ↔ IsHallSet c.in_ok-problem.problem persons objects = search rules in
    of_sparse (g.R.Read.remaining c.args.r.now) c.in_ok-problem.problem
    (λ (rows : List Listing). IsTrue c.eq.result ↔ IsHallSet rows persons objects) exact c.in_ok-problem.ensures
