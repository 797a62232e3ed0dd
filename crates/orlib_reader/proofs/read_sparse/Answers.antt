use Rattle.orlib_reader.proofs.Grammar.{by_triples}
use Rattle.orlib_reader.proofs.read_sparse.Goals as goal

pub returns : goal.returns
returns g c = by_triples (g.R.Read.remaining c.args.r.now) c.read_all.result c.read_all.ensures
