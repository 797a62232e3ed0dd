use Rattle.std.proofs.Common.{◌∙◌}
use Rattle.async_workers.proofs.Steps.{takes_from}
use Rattle.async_workers.proofs.place.taking.take_book.Goals as goal

pub try_pop_as-requires-clause-rule : goal.try_pop_as-requires-clause-rule
try_pop_as-requires-clause-rule g c = takes_from _ _ c.requires.away.0 (c.loop.invariant.1 ∙ c.requires.away.1)

pub returns-in-Some-try_pop_as-clause-took : goal.returns-in-Some-try_pop_as-clause-took
returns-in-Some-try_pop_as-clause-took g c t e = c.in-Some-try_pop_as.ensures.rule t (c.loop.invariant.1 ∙ e)
