use Rattle.std.proofs.Common.{rules}
use Rattle.std.proofs.lemmas.List.{map-id}
use Rattle.dual_checker.proofs.hall_lists.are_rising.Goals as goal

pub returns-then-rise : goal.returns-then-rise
returns-then-rise c =
    let persons = rw (map-id c.args.persons.now) at c.rise.ensures in
    let objects = rw (map-id c.args.objects.now) at c.rise-then-rise.ensures in
    ((λ t. (persons.0 c.if-rise.true, objects.0 t)), (λ r. objects.1 r.1))

pub returns-else-rise : goal.returns-else-rise
returns-else-rise c = let persons = rw (map-id c.args.persons.now) at c.rise.ensures in search rules
