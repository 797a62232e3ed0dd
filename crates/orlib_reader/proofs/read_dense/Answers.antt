use Rattle.orlib_reader.proofs.Grammar.{by_tokens}
use Rattle.orlib_reader.proofs.read_dense.Goals as goal

pub returns : goal.returns
returns g c = by_tokens _ _ c.read_all.ensures
