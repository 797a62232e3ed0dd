use Rattle.price_log.proofs.Histories.{earlier_stays}
use Rattle.price_log.proofs.law.earlier_tables_stay.Goals as goal

pub returns : goal.returns
returns c = earlier_stays
