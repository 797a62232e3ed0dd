use Rattle.c_wide.proofs.FewestLaws.{combined_fewest}
use Rattle.c_wide.proofs.fewest.law.combined_means_fewest.Goals as goal

pub returns : goal.returns
returns c = combined_fewest
