use Rattle.rounds.specs.inside.Similar.{HasAlike}
use Rattle.rounds.proofs.similar.find_alike.Given as goal

abbrev pub invariant-loop-i : goal.invariant-loop-i
invariant-loop-i l = HasAlike l.scaled l.alike
