use Rattle.std.proofs.lemmas.Bool.Decides.{Decides-int_eq}
use Rattle.std.proofs.lemmas.Slice.Eq.{slice_eq-Decides}
use Rattle.rounds.proofs.similar.are_same_benefits.Goals as goal

pub returns : goal.returns
returns c = λ t. (slice_eq-Decides Decides-int_eq c.args.first.now c.args.second.now c.eq.result c.eq.ensures).0 t
