use Rattle.assign_core.proofs.HallSets.{no_assignment}
use Rattle.double_costs.specs.DoubleRows.{rows_of_doubles}
use Rattle.double_checker.proofs.hall.check_hall.Goals as goal

pub returns-then-is_hall-clause-none : goal.returns-then-is_hall-clause-none
returns-then-is_hall-clause-none c = λ e xs a.
    no_assignment (rows_of_doubles c.args.m c.args.n c.args.costs.now) c.args.persons.now c.args.objects.now xs
    (c.is_hall.ensures.0 c.if-is_hall.true) a
