use Rattle.auction_book.proofs.Calling.{answered_follows, set_follows, submitted_follows}
use Rattle.auction_book.proofs.WorkerSteps.{noted_left, own_kept, undone_left}
use Rattle.auction_book.proofs.law.submissions_follow.Goals as goal

pub returns : goal.returns
returns c = record {
  submitted = λ b new worker bid answer. submitted_follows worker b new bid answer;
  recorded = λ b new worker below lists answer. set_follows worker b new below lists answer;
  answered = λ b worker answer. answered_follows worker b answer;
  noted = λ b new worker version table offer told free below prepared is. (noted_left worker b new table version offer told free below prepared is).ends;
  undone = λ b new worker version table offer told free below prepared is. (undone_left worker b new table version offer told free below prepared is).ends;
  tables = λ b new table version free on below earlier. let own = own_kept b new table version free on
      (record { long = below; earlier = earlier }) in (own.long, own.earlier);
}
