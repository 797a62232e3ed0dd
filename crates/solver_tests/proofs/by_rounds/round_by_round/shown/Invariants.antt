use Rattle.std.proofs.Common.{◌≡◌}
use Rattle.rounds.specs.Rounds.{IsAtRest}
use Rattle.solver_tests.proofs.by_rounds.round_by_round.shown.Given as goal

abbrev pub invariant-loop : goal.invariant-loop
invariant-loop l = IsAtRest l.book × (l.book.base ≡ l.rounds.base)
