use Rattle.std.proofs.lemmas.List.Elements.{All-set}
use Rattle.async_workers.specs.Turns.{CanTurn}
use Rattle.solver_tests.proofs.by_workers.scripts.run_script.Goals.{in-None, in-Some+then-at-len+in_ok-push-in-Some, in-Some+else-at-len}
use Rattle.solver_tests.proofs.by_workers.scripts.run_script.Goals as goal

pub loop-letter-preserved : goal.loop-letter-preserved
loop-letter-preserved g c = elim c.match-step_of.branch [
  | in-None w ↦ rw w.desks-is c.loop-letter.invariant
  | in-Some+then-at-len+in_ok-push-in-Some w ↦ rw w.desks-is (All-set (CanTurn c.args.place.now)
      c.loop-letter.desks.items c.loop-letter.at w.one_step-next.new.desk w.one_step-next.ensures
      c.loop-letter.invariant)
  | in-Some+else-at-len w ↦ rw w.desks-is c.loop-letter.invariant
]
