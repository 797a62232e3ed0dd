use Rattle.std.proofs.Common.{length, ◌∙◌, sym}
use Rattle.double_costs.specs.DoubleRows.{rows_of_doubles}
use Rattle.double_checker.specs.Verdicts.{price_units}
use Rattle.block_doubles.specs.Pairs.{numbers_in}
use Rattle.block_doubles.proofs.Written.{written_more}
use Rattle.block_doubles.proofs.writing.write_selected.Goals as goal
use Rattle.block_doubles.proofs.writing.write_selected.Goals.{in-Some+then-is_next, in_default}

pub loop-one-preserved : goal.loop-one-preserved
loop-one-preserved c =
    let kept = c.loop-one.auto in
    elim c.match-better_pair.branch [
      | in-Some+then-is_next w ↦
          rw (w.persons-is, w.objects-is, w.paid-is, w.count-is)
          (written_more c.args.sense (rows_of_doubles (length c.args.prices.now) (length c.args.number_costs.now) c.args.costs.now)
          (price_units c.args.prices.now) (numbers_in c.args.sense c.args.number_costs.now c.args.number_prices.now)
          c.args.most c.loop-one.count
          (record { persons = c.args.persons.now; objects = c.args.objects.now; costs = c.args.paid.now })
          (record { persons = c.loop-one.persons; objects = c.loop-one.objects; costs = c.loop-one.paid })
          w.in-Some.pair.person w.in-Some.pair.object w.in-Some.pair.cost c.loop-one.invariant
          (kept.objects ∙ c.requires.objects_long ∙ sym kept.persons) (kept.paid ∙ c.requires.paid_long ∙ sym kept.persons)
          (w.is_next.ensures w.if-is_next.true) w.in-Some.ensures)
      | in_default w ↦ rw (w.persons-is, w.objects-is, w.paid-is, w.count-is) c.loop-one.invariant
    ]
