use Rattle.std.specs.Arc.{arc_value}
use Rattle.auction_book.specs.Book.{prices_of}
use Rattle.candidates.specs.Candidates.{HaveCandidates}
use Rattle.rounds.specs.Rounds.{room}
use Rattle.rounds.specs.inside.Similar.{AreSimilar}
use Rattle.rounds.proofs.Running.{IsRunning}
use Rattle.rounds.proofs.rounds.run_rounds.Given as goal

abbrev pub invariant-rounds : goal.invariant-rounds
invariant-rounds g l = record {
  running : IsRunning (arc_value l.fn.scaled) l.fn.prices l.book;
  similar : AreSimilar (arc_value l.fn.scaled) l.similar;
  lists : HaveCandidates (arc_value l.fn.scaled) (prices_of l.book) l.lists;
}

abbrev pub decreases-rounds : goal.decreases-rounds
decreases-rounds g l = room (prices_of l.book)
