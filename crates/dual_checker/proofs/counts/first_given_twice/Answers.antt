use Rattle.std.proofs.Common.{length, arith}
use Rattle.dual_checker.proofs.Tallies.{finds_twice}
use Rattle.dual_checker.proofs.counts.first_given_twice.Goals as goal

pub returns-clause-first : goal.returns-clause-first
returns-clause-first g c =
    finds_twice c.count_given.new.counts (g.T.Placed.numbers_of c.args.given.now) (length c.args.counts.now) c.first_over_one.result
    c.count_given.ensures (omega arith) c.requires.within c.first_over_one.ensures
