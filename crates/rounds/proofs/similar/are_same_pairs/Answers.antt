use Rattle.std.proofs.lemmas.Slice.Eq.{slice_eq-Decides}
use Rattle.rounds.proofs.Alike.{pairs_decided}
use Rattle.rounds.proofs.similar.are_same_pairs.Goals as goal

pub returns : goal.returns
returns c = λ t. (slice_eq-Decides pairs_decided c.args.first.now c.args.second.now c.eq.result c.eq.ensures).0 t
