use Rattle.auction_book.proofs.Runs.{run_fit}
use Rattle.auction_book.proofs.schedule.worlds_go_on.Goals as goal

pub returns : goal.returns
returns c = λ core new events fit run. (run_fit core events new fit run).on
