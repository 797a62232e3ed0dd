use Rattle.rounds.proofs.Claiming.{IsClaiming}
use Rattle.rounds.proofs.rounds.claim_all.Given as goal

abbrev pub invariant-loop-i : goal.invariant-loop-i
invariant-loop-i l = IsClaiming l.initial.book l.book l.persons.items l.i
