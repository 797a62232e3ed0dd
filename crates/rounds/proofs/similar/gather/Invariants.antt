use Rattle.rounds.proofs.Alike.{IsGathering}
use Rattle.rounds.proofs.similar.gather.Given as goal

abbrev pub invariant-loop-person : goal.invariant-loop-person
invariant-loop-person l = IsGathering l.alike l.persons l.firsts.items l.places.items l.person-index
