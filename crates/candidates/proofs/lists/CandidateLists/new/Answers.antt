use Rattle.std.proofs.Common.{arith}
use Rattle.candidates.proofs.Persons.{lists_new}
use Rattle.candidates.proofs.lists.CandidateLists.new.Goals as goal

pub returns : goal.returns
returns c = λ prices table long.
    lists_new c.args.scaled.now prices c.fill.new.lists.items c.n-n.ensures.rule table long (omega (arith, c.fill.ensures.count)) c.fill.ensures.each
