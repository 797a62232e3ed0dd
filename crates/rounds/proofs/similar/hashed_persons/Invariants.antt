use Rattle.std.proofs.Common.{length, All}
use Rattle.assign_core.specs.Numbered.{IsNumber}
use Rattle.rounds.proofs.similar.hashed_persons.Given as goal

abbrev pub invariant-loop-i : goal.invariant-loop-i
invariant-loop-i l = All (λ e. IsNumber (length l.scaled.problem) e.1) l.hashed.items
