use Rattle.rounds.proofs.Submitting.{IsAtOffer}
use Rattle.rounds.proofs.rounds.submit_all.Given as goal

abbrev pub invariant-loop-i : goal.invariant-loop-i
invariant-loop-i l = IsAtOffer l.initial.book l.book l.offers l.i
