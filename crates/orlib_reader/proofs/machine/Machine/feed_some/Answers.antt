use Rattle.std.proofs.lemmas.Result.{err_from_is_err_and}
use Rattle.orlib_reader.proofs.Streams.{err_step}
use Rattle.orlib_reader.proofs.machine.Machine.feed_some.Goals as goal

pub returns-in_err-feed-clause-fault : goal.returns-in_err-feed-clause-fault
returns-in_err-feed-clause-fault c =
    let passed = err_from_is_err_and c.from_residual.result c.from_residual.ensures.1 in
    rw (passed.1, passed.2) (err_step _ c.args.self.now c.args.bytes.now 0 c.requires c.in_err-feed.ensures.step)
