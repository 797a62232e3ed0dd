use Rattle.async_workers.specs.Turns.{CanTurn, WorksOn}
use Rattle.async_workers.proofs.working.take_turns.Given as goal

abbrev pub invariant-loop : goal.invariant-loop
invariant-loop g l = record {
  can_turn : CanTurn l.place l.desk;
  works : WorksOn l.initial.desk l.desk;
}
