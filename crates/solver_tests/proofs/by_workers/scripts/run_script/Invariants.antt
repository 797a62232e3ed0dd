use Rattle.std.specs.List.{All}
use Rattle.async_workers.specs.Turns.{CanTurn}
use Rattle.solver_tests.proofs.by_workers.scripts.run_script.Given as goal

abbrev pub invariant-loop-letter : goal.invariant-loop-letter
invariant-loop-letter g l = All (CanTurn l.place) l.desks.items
