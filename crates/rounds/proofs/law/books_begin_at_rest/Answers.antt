use Rattle.std.proofs.Common.{length, refl}
use Rattle.auction_book.specs.Phases.{opened}
use Rattle.auction_book.specs.Session.{next_if_over}
use Rattle.rounds.proofs.Phasing.{next_rests}
use Rattle.rounds.proofs.Running.{running_first}
use Rattle.rounds.proofs.law.books_begin_at_rest.Goals as goal

pub returns-clause-opened : goal.returns-clause-opened
returns-clause-opened c = λ s prices free. (running_first s prices (length s.problem) (opened s prices (length s.problem)) refl free refl).rest

pub returns-clause-phase : goal.returns-clause-phase
returns-clause-phase c = λ b rest free. next_rests b (next_if_over b) rest refl free
