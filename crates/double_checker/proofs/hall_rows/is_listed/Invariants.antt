use Rattle.std.proofs.Common.{ℕ, ◌<◌}
use Rattle.double_checker.specs.inside.Halls.{IsAllowed}
use Rattle.double_checker.proofs.hall_rows.is_listed.Given as goal

abbrev pub invariant-loop-i : goal.invariant-loop-i
invariant-loop-i l = (k : ℕ) → k < l.i → ¬ IsAllowed l.m l.costs l.persons l.object k
