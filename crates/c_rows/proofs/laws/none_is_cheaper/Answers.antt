use Rattle.c_rows.proofs.Cheaper.{none_is_cheaper}
use Rattle.c_rows.proofs.laws.none_is_cheaper.Goals as goal

pub returns : goal.returns
returns c = none_is_cheaper
