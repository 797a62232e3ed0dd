use Rattle.std.proofs.Common.{◌∙◌, sym, rules, SFits, w64}
use Rattle.std.proofs.lemmas.Int.{to_z-of_z}
use Rattle.block_checker.proofs.Written.{written_more}
use Rattle.block_checker.proofs.better.write_better.Goals as goal
use Rattle.block_checker.proofs.better.write_better.Goals.{in-Some+then-count-persons, in_default}

pub loop-one-preserved : goal.loop-one-preserved
loop-one-preserved c =
    let kept = c.loop-one.auto in
    elim c.match-better_pair.branch [
      | in-Some+then-count-persons w ↦
          let fits : SFits w64 w.in-Some.pair.cost = search rules in
          let is = simp to_z-of_z at w.costs-is in
          rw (w.persons-is, w.objects-is, is, w.count-is)
          (written_more c.args.lists.now c.args.prices.now c.args.numbers.now c.loop-one.count
          (record { persons = c.args.persons.now; objects = c.args.objects.now; costs = c.args.costs.now })
          (record { persons = c.loop-one.persons; objects = c.loop-one.objects; costs = c.loop-one.costs })
          w.in-Some.pair.person w.in-Some.pair.object w.in-Some.pair.cost c.loop-one.invariant
          (kept.objects ∙ c.requires.objects_long ∙ sym kept.persons) (kept.costs ∙ c.requires.costs_long ∙ sym kept.persons)
          w.if-count-persons.true w.in-Some.ensures)
      | in_default w ↦ rw (w.persons-is, w.objects-is, w.costs-is, w.count-is) c.loop-one.invariant
    ]
