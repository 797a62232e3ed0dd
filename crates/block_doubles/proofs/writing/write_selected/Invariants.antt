use Rattle.std.proofs.Common.{length}
use Rattle.double_costs.specs.DoubleRows.{rows_of_doubles}
use Rattle.double_checker.specs.Verdicts.{price_units}
use Rattle.block_doubles.specs.Pairs.{AreWritten, numbers_in}
use Rattle.block_doubles.proofs.writing.write_selected.Given as goal

abbrev pub invariant-loop-one : goal.invariant-loop-one
invariant-loop-one l =
    AreWritten l.sense (rows_of_doubles (length l.prices) (length l.number_costs) l.costs) (price_units l.prices)
    (numbers_in l.sense l.number_costs l.number_prices) l.most l.count
    (record { persons = l.initial.persons; objects = l.initial.objects; costs = l.initial.paid })
    (record { persons = l.persons; objects = l.objects; costs = l.paid })
